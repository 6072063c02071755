-- Pieces as lists of bounds, which are half planes with or without their border, or borders alone.
use Rattle.std.specs.Prelude.{pos, Bool, List, map}
use Rattle.std.specs.List.{list_all, list_any}
use Rattle.ded_model.specs.declared.slot.Slot.{Slot}
use Rattle.ded_model.specs.declared.row.RowOp.{RowOp}
use Rattle.ded_model.specs.declared.row.RowOp.TheVariants.{AtMost}
use Rattle.ded_model.specs.Constraint.{LinearConstraint}
use Rattle.ded_model.specs.Point.{Point, slot, number_at}
use Rattle.ded_model.specs.Row.{sign_meets, row_holds}
use Rattle.ded_polygon.specs.Plane.{HalfPlane, Spot, level}
use Rattle.ded_polygon.specs.Rows.{half_plane}

-- the level of the half plane is 0, at most 0, or below 0
pub record PlaneLimit : Type 0 where
  pub plane : HalfPlane
  pub op : RowOp

-- it is so at the spot
abbrev pub limit_holds : PlaneLimit → Spot → Bool
limit_holds b p = sign_meets b.op (level b.plane p)

-- all limits of the piece hold
abbrev pub piece_holds : List PlaneLimit → Spot → Bool
piece_holds bs p = list_all (λ b. limit_holds b p) bs

-- some piece holds
abbrev pub union_holds : List (List PlaneLimit) → Spot → Bool
union_holds pieces p = list_any (λ bs. piece_holds bs p) pieces

-- the limit of a row over two slots
abbrev pub limit_of : Slot → Slot → LinearConstraint → PlaneLimit
limit_of x y r = record { plane = half_plane x y r; op = r.op }

-- those of rows
abbrev pub limits_of : Slot → Slot → List LinearConstraint → List PlaneLimit
limits_of x y rows = map (limit_of x y) rows

-- all rows hold
abbrev pub rows_hold : List LinearConstraint → Point → Bool
rows_hold rows p = list_all (λ r. row_holds r p) rows

-- the spot of a point, by its numbers at two slots
abbrev pub spot_at : Slot → Slot → Point → Spot
spot_at x y p = record { x = number_at p (slot x); y = number_at p (slot y); den = pos p.den }

-- half planes with their borders
abbrev pub closed_limits : List HalfPlane → List PlaneLimit
closed_limits ss = map (λ s. record { plane = s; op = AtMost }) ss
