use Rattle.std.proofs.Common.{drop}
use Rattle.ded_plan.proofs.AtomsWithin.{Picked}
use Rattle.ded_plan.proofs.scans.add_atoms.Given as goal

abbrev pub invariant-loop-atom : goal.invariant-loop-atom
invariant-loop-atom l = Picked (λ a. Unit {0}) l.initial.atoms.items l.atom-items (drop l.atom-index l.atom-items) l.atoms.items
