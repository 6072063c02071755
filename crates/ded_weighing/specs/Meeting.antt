-- Rows at a point that is given by the numbers of some slots, over one denominator.
use Rattle.std.specs.Prelude.{ℤ, pos, ◌+ℤ◌, ◌*ℤ◌, int_lt, int_le, unsigned_abs, Bool, false, not, ◌&&◌, ◌||◌, List, [], ◌∷◌, map, if◌then◌else◌}
use Rattle.std.specs.List.{list_all}
use Rattle.ded_model.specs.declared.slot.Slot.{Slot}
use Rattle.ded_model.specs.declared.row.RowOp.{RowOp}
use Rattle.ded_model.specs.declared.row.RowOp.TheVariants.{Zero, AtMost, Below}
use Rattle.ded_model.specs.Constraint.{LinearConstraint}
use Rattle.ded_model.specs.Point.{slot, number, Point, same_slot}
use Rattle.ded_model.specs.Row.{row_at, sign_meets, row_holds}
use Rattle.ded_weighing.specs.Weighing.{term_is_long}

-- the point with these numbers at the slots, over a denominator; any other slot has 0
abbrev pub point_of : List (Slot × ℤ) → ℤ → Point
point_of vs d = record { den = unsigned_abs d; coords = map (λ v. (slot v.0, number v.1)) vs }

-- the last number of the slot, or else z
abbrev pub number_from : ℤ → List (Slot × ℤ) → Slot → ℤ
number_from z [] s = z
number_from z (v ∷ vs) s = number_from (if same_slot s v.0 then v.1 else z) vs s

-- the numbers of the slots, each times its coefficient, and what there is before
abbrev pub sum_with : List (Slot × ℤ) → ℤ → List (Slot × ℤ) → ℤ
sum_with vs sum [] = sum
sum_with vs sum (c ∷ cs) = sum_with vs (c.1 *ℤ number_from (pos 0) vs c.0 +ℤ sum) cs

-- a product, or a sum on the way from this one, is too long
abbrev pub coefs_are_long : List (Slot × ℤ) → ℤ → List (Slot × ℤ) → Bool
coefs_are_long vs sum [] = false
coefs_are_long vs sum (c ∷ cs) = term_is_long c.1 (number_from (pos 0) vs c.0) sum || coefs_are_long vs (c.1 *ℤ number_from (pos 0) vs c.0 +ℤ sum) cs

-- the same of a row, of which the constant goes first
abbrev pub row_is_long : List (Slot × ℤ) → ℤ → LinearConstraint → Bool
row_is_long vs d r = term_is_long r.constant d (pos 0) || coefs_are_long vs (r.constant *ℤ d +ℤ pos 0) r.coefs

-- the row holds at the point, and no number on the way is too long
abbrev pub meets_row : List (Slot × ℤ) → ℤ → LinearConstraint → Bool
meets_row vs d r = not (row_is_long vs d r) && row_holds r (point_of vs d)

-- the denominator is positive, and all rows hold there without a number that is too long
abbrev pub meets : List (Slot × ℤ) → ℤ → List LinearConstraint → Bool
meets vs d rs = int_lt (pos 0) d && list_all (λ r. meets_row vs d r) rs

-- ---- where no sum has to be below 0

-- `<=` for `<`
abbrev pub weakly : RowOp → RowOp
weakly Zero = Zero
weakly AtMost = AtMost
weakly Below = AtMost

-- the row holds at the point with `<=` for `<`, and no number on the way is too long
abbrev pub leans_row : List (Slot × ℤ) → ℤ → LinearConstraint → Bool
leans_row vs d r = not (row_is_long vs d r) && sign_meets (weakly r.op) (row_at r (point_of vs d))

-- the denominator isn't negative, where 0 means a direction, and all rows hold with `<=` for `<`, without a number that
-- is too long
abbrev pub leans : List (Slot × ℤ) → ℤ → List LinearConstraint → Bool
leans vs d rs = int_le (pos 0) d && list_all (λ r. leans_row vs d r) rs
