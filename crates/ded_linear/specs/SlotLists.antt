-- Lists of the slots that are still to be eliminated.
use Rattle.std.specs.Prelude.{◌≡◌, ◌<◌, ℤ, ◌||◌, false, true, List, [], ◌∷◌, ◌++◌, length, if◌then◌else◌}
use Rattle.ded_model.specs.declared.slot.Slot.{Slot}
use Rattle.ded_model.specs.Constraint.{LinearConstraint}
use Rattle.ded_model.specs.Point.{same_slot, stands_in}
use Rattle.ded_model.specs.Row.{row_mentions}
use Rattle.ded_theory.specs.Conjunctions.{conj_mentions}

-- the slot t added to the list, unless it is the slot s or stands there
abbrev pub with_slot : Slot → List Slot → Slot → List Slot
with_slot s ss t = if same_slot t s || stands_in ss t then ss else ss ++ t ∷ []

-- the slots of the coefficients added
abbrev pub with_slots : Slot → List Slot → List (Slot × ℤ) → List Slot
with_slots s ss [] = ss
with_slots s ss (c ∷ cs) = with_slots s (with_slot s ss c.0) cs

-- the slots of the rows added
abbrev pub with_all_slots : Slot → List Slot → List LinearConstraint → List Slot
with_all_slots s ss [] = ss
with_all_slots s ss (r ∷ rows) = with_all_slots s (with_slots s ss r.coefs) rows

-- the rows mention the slot s and slots of the list alone, and s is none of these
pub record AreOthers (s : Slot) (ss : List Slot) (rows : List LinearConstraint) : Type 0 where
  pub apart : stands_in ss s ≡ false
  pub cover : (t : Slot) → conj_mentions row_mentions rows t ≡ true → (same_slot t s || stands_in ss t) ≡ true

-- the slot t is taken from the list ss, which leaves ts
pub record IsTaken (ss : List Slot) (t : Slot) (ts : List Slot) : Type 0 where
  pub there : stands_in ss t ≡ true
  pub left : (u : Slot) → stands_in ss u ≡ true → same_slot u t ≡ false → stands_in ts u ≡ true
  pub fewer : (u : Slot) → stands_in ts u ≡ true → stands_in ss u ≡ true
  pub shorter : length ts < length ss
