use Rattle.std.proofs.Common.{◌≡◌, drop}
use Rattle.ded_model.specs.Renaming.{renamed}
use Rattle.ded_model.proofs.slot.renamed.Given as goal

abbrev pub invariant-loop-from : goal.invariant-loop-from
invariant-loop-from l = renamed (drop l.from-index l.map) l.slot ≡ renamed l.map l.slot
