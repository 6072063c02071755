-- The numbers of rows that a sum adds up: their constants, or their coefficients of a slot.
use Rattle.std.specs.Prelude.{◌≡◌, ℤ, pos, ◌+ℤ◌, ◌*ℤ◌, Bool, true, List, [], ◌∷◌, map}
use Rattle.std.specs.Borrow.{Bor}
use Rattle.std.specs.List.{list_all, list_any}
use Rattle.std.specs.Ordering.{int_eq}
use Rattle.ded_model.specs.declared.slot.Slot.{Slot}
use Rattle.ded_model.specs.Constraint.{LinearConstraint}
use Rattle.ded_model.specs.Coefs.{coef_at}
use Rattle.ded_model.specs.Point.{same_slot, stands_in}
use Rattle.ded_weighing.specs.declared.weighing.SummedColumn.{SummedColumn}
use Rattle.ded_weighing.specs.declared.weighing.SummedColumn.TheVariants.{Constants, At}

-- the rows behind references
abbrev pub lent : List (Bor LinearConstraint) → List LinearConstraint
lent rs = map (λ r. r.now) rs

-- the number of a row in the column
abbrev pub number_in : SummedColumn → LinearConstraint → ℤ
number_in Constants r = r.constant
number_in (At s) r = coef_at r.coefs s

-- the numbers of the rows, each times the row's, and what there is before
abbrev pub sum_from : (LinearConstraint → ℤ) → ℤ → List ℤ → List LinearConstraint → ℤ
sum_from number sum (m ∷ ms) (r ∷ rs) = sum_from number (m *ℤ number r +ℤ sum) ms rs
sum_from number sum _ _ = sum

-- the coefficients of the slot come to 0
abbrev pub vanishes : List ℤ → List LinearConstraint → Slot → Bool
vanishes ms rs s = int_eq (sum_from (λ r. coef_at r.coefs s) (pos 0) ms rs) (pos 0)

-- the coefficients of each of the slots come to 0
abbrev pub all_vanish : List ℤ → List LinearConstraint → List Slot → Bool
all_vanish ms rs ss = list_all (vanishes ms rs) ss

-- each slot of the coefficients stands among the slots
abbrev pub HasSlots : List Slot → List (Slot × ℤ) → Type 0
HasSlots ss cs = (s : Slot) → list_any (λ c. same_slot c.0 s) cs ≡ true → stands_in ss s ≡ true

-- each slot of the rows stands among the slots
abbrev pub HasAllSlots : List Slot → List LinearConstraint → Type 0
HasAllSlots ss [] = Unit {0}
HasAllSlots ss (r ∷ rs) = HasSlots ss r.coefs × HasAllSlots ss rs
