use Rattle.std.proofs.Common.{◌≡◌, true, take}
use Rattle.std.specs.List.{AllByRecursion}
use Rattle.ded_elimination.specs.LinearAtoms.{IsLinearAtom}
use Rattle.ded_cert.specs.Projecting.{IsProjected}
use Rattle.ded_cert.specs.Tracing.{is_weak_row}
use Rattle.ded_cert.proofs.projecting.without_slots.Given as goal

abbrev pub invariant-loop-slot : goal.invariant-loop-slot
invariant-loop-slot l = record {
  projected : IsProjected l.initial.rows.items (take l.slot-index l.slots) l.rows.items;
  normal : AllByRecursion IsLinearAtom l.rows.items;
  weak : AllByRecursion (λ r. is_weak_row r ≡ true) l.rows.items;
}
