use Rattle.std.proofs.Common.{◌≡◌, true, [], drop}
use Rattle.ded_plan.specs.Scans.{is_over}
use Rattle.ded_plan.proofs.AtomsWithin.{Picked}
use Rattle.ded_plan.proofs.scans.over_slots.Given as goal

abbrev pub invariant-loop-atom : goal.invariant-loop-atom
invariant-loop-atom l = Picked (λ a. is_over l.slots a ≡ true) [] l.atom-items (drop l.atom-index l.atom-items) l.atoms.items
