use Rattle.std.proofs.Common.{◌≡◌, false, [], drop}
use Rattle.ded_model.specs.Row.{atom_mentions}
use Rattle.ded_plan.proofs.AtomsWithin.{Picked}
use Rattle.ded_plan.proofs.scans.without_slot.Given as goal

abbrev pub invariant-loop-atom : goal.invariant-loop-atom
invariant-loop-atom l = Picked (λ a. atom_mentions a l.slot ≡ false) [] l.atom-items (drop l.atom-index l.atom-items) l.atoms.items
