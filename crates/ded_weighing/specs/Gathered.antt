-- The slots of rows, gathered one after another.
use Rattle.std.specs.Prelude.{◌≡◌, ℤ, true, List, [], ◌∷◌, ◌++◌, if◌then◌else◌}
use Rattle.std.specs.List.{list_any}
use Rattle.ded_model.specs.declared.slot.Slot.{Slot}
use Rattle.ded_model.specs.Constraint.{LinearConstraint}
use Rattle.ded_model.specs.Point.{stands_in}
use Rattle.ded_model.specs.Row.{row_mentions}

-- the slot added, unless it stands there
abbrev pub with_slot : List Slot → Slot → List Slot
with_slot ss s = if stands_in ss s then ss else ss ++ s ∷ []

-- the slots of the coefficients added
abbrev pub with_slots : List Slot → List (Slot × ℤ) → List Slot
with_slots ss [] = ss
with_slots ss (c ∷ cs) = with_slots (with_slot ss c.0) cs

-- the slots of the rows added
abbrev pub with_all_slots : List Slot → List LinearConstraint → List Slot
with_all_slots ss [] = ss
with_all_slots ss (r ∷ rs) = with_all_slots (with_slots ss r.coefs) rs

-- each of the slots is one that the rows mention
abbrev pub AreOf : List LinearConstraint → List Slot → Type 0
AreOf rs ss = (s : Slot) → stands_in ss s ≡ true → list_any (λ r. row_mentions r s) rs ≡ true
