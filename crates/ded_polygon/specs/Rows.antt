-- Rows over two slots as half planes: an equality is two of them.
use Rattle.std.specs.Prelude.{List, [], ◌∷◌, ◌++◌}
use lib.IntN.{neg_ℤ}
use Rattle.ded_model.specs.declared.slot.Slot.{Slot}
use Rattle.ded_model.specs.declared.row.RowOp.{RowOp}
use Rattle.ded_model.specs.declared.row.RowOp.TheVariants.{Zero, AtMost, Below}
use Rattle.ded_model.specs.Constraint.{LinearConstraint}
use Rattle.ded_model.specs.Coefs.{coef_at}
use Rattle.ded_polygon.specs.Plane.{HalfPlane}

-- the half plane of a row by `<=`
abbrev pub half_plane : Slot → Slot → LinearConstraint → HalfPlane
half_plane x y r = record { a = coef_at r.coefs x; b = coef_at r.coefs y; c = r.constant }

-- the half plane on the other side of the border
abbrev pub opposite : HalfPlane → HalfPlane
opposite s = record { a = neg_ℤ s.a; b = neg_ℤ s.b; c = neg_ℤ s.c }

-- the half planes of a row by the op, s being that by `<=`
abbrev pub by_op : RowOp → HalfPlane → List HalfPlane
by_op Zero s = s ∷ opposite s ∷ []
by_op AtMost s = s ∷ []
by_op Below s = s ∷ []

-- the half planes of rows
abbrev pub half_planes : Slot → Slot → List LinearConstraint → List HalfPlane
half_planes x y [] = []
half_planes x y (r ∷ rows) = by_op r.op (half_plane x y r) ++ half_planes x y rows
