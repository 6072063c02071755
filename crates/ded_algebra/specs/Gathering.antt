-- What the arguments of an atom are scanned at, gathered one argument after another.
use Rattle.std.specs.Prelude.{◌≡◌, ℕ, ◌<◌, true, List, ◌++◌, map}
use Rattle.ded_model.specs.declared.slot.Slot.{Slot}
use Rattle.ded_model.specs.declared.goal.Place.{Place}
use Rattle.ded_model.specs.Point.{stands_in, AreDistinctSlots}
use Rattle.ded_model.specs.PlanForm.{PlanForm, plan_form}
use Rattle.ded_model.specs.Scanned.{scanned_after, scanned_slots, tied_atoms, fresh_slots}
use Rattle.ded_algebra.specs.declared.scanning.Scanning.{Scanning}
use Rattle.ded_algebra.specs.Compile.{row_plan}

-- the slots of the columns, the new ones among them, and the plans of the atoms that tie these
pub record Gathered : Type 0 where
  pub slots : List Slot
  pub fresh : List Slot
  pub ties : List PlanForm

-- what is gathered, and what the places that are left add to it
abbrev pub gathered : Scanning → List Place → Gathered
gathered s ts = record {
  slots = s.slots.items ++ scanned_slots (scanned_after s.slots.items s.next ts);
  fresh = s.fresh.items ++ fresh_slots (scanned_after s.slots.items s.next ts);
  ties = map plan_form s.ties.items ++ map row_plan (tied_atoms (scanned_after s.slots.items s.next ts));
}

-- no slot stands twice, and all have numbers below n
pub record IsApart (n : ℕ) (ss : List Slot) : Type 0 where
  pub distinct : AreDistinctSlots ss
  pub below : (s : Slot) → stands_in ss s ≡ true → s.number < n
