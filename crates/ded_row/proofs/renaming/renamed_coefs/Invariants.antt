use Rattle.std.proofs.Common.{◌≡◌, [], drop}
use Rattle.ded_model.specs.Renaming.{renamed_onto}
use Rattle.ded_row.proofs.renaming.renamed_coefs.Given as goal

abbrev pub invariant-loop-slot : goal.invariant-loop-slot
invariant-loop-slot l = renamed_onto l.map l.coefs (drop l.slot-index l.slot-items) ≡ renamed_onto l.map [] l.slot-items
