-- Windows, and the rows that say that a point is in one.
use Rattle.std.specs.Prelude.{ℤ, pos, ◌<ℤ◌, List, [], ◌∷◌}
use lib.IntN.{neg_ℤ}
use Rattle.ded_model.specs.declared.slot.Slot.{Slot}
use Rattle.ded_model.specs.declared.row.RowOp.TheVariants.{AtMost}
use Rattle.ded_model.specs.Constraint.{LinearConstraint}
use Rattle.ded_num.specs.Length.{IsWithin}
use Rattle.ded_polygon.specs.Plane.{HalfPlane}

-- the points with x between left / den and right / den, and y between bottom / den and top / den
pub record Frame : Type 0 where
  pub left : ℤ
  pub right : ℤ
  pub bottom : ℤ
  pub top : ℤ
  pub den : ℤ

-- what a window of the program keeps
pub record IsFrame (w : Frame) : Type 0 where
  pub left : IsWithin 62 w.left
  pub right : IsWithin 62 w.right
  pub bottom : IsWithin 62 w.bottom
  pub top : IsWithin 62 w.top
  pub den : IsWithin 31 w.den
  pub positive : pos 0 <ℤ w.den
  pub wide : w.left <ℤ w.right
  pub high : w.bottom <ℤ w.top

-- a * s + c is at most 0
abbrev pub end_row : Slot → ℤ → ℤ → LinearConstraint
end_row s a c = record { coefs = (s, a) ∷ []; constant = c; op = AtMost }

-- the four rows of a window
abbrev pub window_rows : Slot → Slot → Frame → List LinearConstraint
window_rows x y w =
    end_row x (neg_ℤ w.den) w.left ∷ end_row x w.den (neg_ℤ w.right) ∷ end_row y (neg_ℤ w.den) w.bottom ∷ end_row y w.den (neg_ℤ w.top) ∷ []

-- the half planes of these rows
abbrev pub window_planes : Frame → List HalfPlane
window_planes w =
    record { a = neg_ℤ w.den; b = pos 0; c = w.left } ∷ record { a = w.den; b = pos 0; c = neg_ℤ w.right } ∷ record { a = pos 0; b = neg_ℤ w.den; c = w.bottom }
    ∷ record { a = pos 0; b = w.den; c = neg_ℤ w.top } ∷ []
