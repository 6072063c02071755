-- The arguments of an atom, as a plan scans them: at their own slots, or at new ones that atoms tie to their values.
use Rattle.std.specs.Prelude.{ℕ, suc, max, ℤ, pos, List, [], ◌∷◌, ◌++◌, if◌then◌else◌}
use lib.IntN.{neg_ℤ}
use Rattle.ded_model.specs.declared.slot.Slot.{Slot}
use Rattle.ded_model.specs.declared.slot.Sort.{Sort}
use Rattle.ded_model.specs.declared.slot.Sort.TheVariants.{Rat, Text}
use Rattle.ded_model.specs.declared.goal.Place.{Place}
use Rattle.ded_model.specs.declared.goal.Place.TheVariants.{At, Value, Quoted}
use Rattle.ded_model.specs.declared.row.RowOp.TheVariants.{Zero}
use Rattle.ded_model.specs.declared.tuple.ThemeAtom.TheVariants.{EqText, EqSlot}
use Rattle.ded_model.specs.declared.tuple.BothAtom.TheVariants.{First, Second}
use Rattle.ded_model.specs.Constraint.{LinearConstraint}
use Rattle.ded_model.specs.Sum.{SlotSum, denominator}
use Rattle.ded_model.specs.Coefs.{put, put_all}
use Rattle.ded_model.specs.Normal.{normal_row}
use Rattle.ded_model.specs.Point.{stands_in}
use Rattle.ded_model.specs.Row.{Atom}

-- an argument is scanned at its own slot, or at a new one that an atom ties to its value. An argument at a new rational
-- slot is a counting one: a rational argument that is no slot, or a slot that stands already as an earlier argument.
pub data Scanned : Type 0 where
  kept : Slot → Scanned
  fresh : Slot → Atom → Scanned

-- the normal row that says that the slot has the value of the sum
abbrev pub argument_row : Slot → SlotSum → LinearConstraint
argument_row u t = normal_row (record { coefs = put u (pos (denominator t.over)) (put_all (neg_ℤ (pos 1)) t.coefs []); constant = neg_ℤ t.constant; op = Zero })

-- the sum of the slot alone
abbrev pub of_slot : Slot → SlotSum
of_slot s = record { coefs = (s, pos 1) ∷ []; constant = pos 0; over = pos 1 }

-- the new slot of number n has the value of the slot s, both of the sort
abbrev pub same_atom : ℕ → Sort → Slot → Atom
same_atom n Rat s = First (argument_row (record { number = n; sort = Rat }) (of_slot s))
same_atom n Text s = Second (EqSlot s (record { number = n; sort = Text }))

-- the places after these slots, as they are scanned; the numbers from n on are new
abbrev pub scanned_after : List Slot → ℕ → List Place → List Scanned
scanned_after done n [] = []
scanned_after done n (At s ∷ ts) =
    if stands_in done s
    then fresh (record { number = n; sort = s.sort }) (same_atom n s.sort s) ∷ scanned_after (done ++ record { number = n; sort = s.sort } ∷ []) (suc n) ts
    else kept s ∷ scanned_after (done ++ s ∷ []) n ts
scanned_after done n (Value t ∷ ts) =
    fresh (record { number = n; sort = Rat }) (First (argument_row (record { number = n; sort = Rat }) t)) ∷ scanned_after (done ++ record { number = n; sort = Rat } ∷ []) (suc n) ts
scanned_after done n (Quoted x ∷ ts) =
    fresh (record { number = n; sort = Text }) (Second (EqText (record { number = n; sort = Text }) x)) ∷ scanned_after (done ++ record { number = n; sort = Text } ∷ []) (suc n) ts

-- one above the greatest number of the slots of the coefficients, 0 where there are none
abbrev pub above_coefs : List (Slot × ℤ) → ℕ
above_coefs [] = 0
above_coefs (c ∷ cs) = max (suc c.0.number) (above_coefs cs)

-- one above the greatest number of the slots of a place, 0 where it has none
abbrev pub above_place : Place → ℕ
above_place (At s) = suc s.number
above_place (Value t) = above_coefs t.coefs
above_place (Quoted t) = 0

-- one above the greatest number of the slots of the places, 0 where they have none: the first number for new slots
abbrev pub first_free : List Place → ℕ
first_free [] = 0
first_free (t ∷ ts) = max (above_place t) (first_free ts)

-- the places as they are scanned; the new slots are a function of the places alone
abbrev pub scanned : List Place → List Scanned
scanned ts = scanned_after [] (first_free ts) ts

-- ---- what they are made of

-- the slots, one for each column
abbrev pub scanned_slots : List Scanned → List Slot
scanned_slots [] = []
scanned_slots (kept s ∷ gs) = s ∷ scanned_slots gs
scanned_slots (fresh s a ∷ gs) = s ∷ scanned_slots gs

-- the atoms that tie the new slots
abbrev pub tied_atoms : List Scanned → List Atom
tied_atoms [] = []
tied_atoms (kept s ∷ gs) = tied_atoms gs
tied_atoms (fresh s a ∷ gs) = a ∷ tied_atoms gs

-- the new slots
abbrev pub fresh_slots : List Scanned → List Slot
fresh_slots [] = []
fresh_slots (kept s ∷ gs) = fresh_slots gs
fresh_slots (fresh s a ∷ gs) = s ∷ fresh_slots gs

-- how many of the slots are rational
abbrev pub rational_count : List Slot → ℕ
rational_count [] = 0
rational_count (s ∷ ss) = counted s.sort (rational_count ss)
  where
    counted : Sort → ℕ → ℕ
    counted Rat n = suc n
    counted Text n = n
