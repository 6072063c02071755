use Rattle.std.proofs.Common.{take}
use Rattle.ded_database.specs.Changes.{before, after, inserted_tuple}
use Rattle.ded_database.specs.Renewed.{AreRenewed}
use Rattle.ded_database.proofs.renewing.renew_all.Given as goal

abbrev pub invariant-loop-mark : goal.invariant-loop-mark
invariant-loop-mark g l = AreRenewed (before l.change) (after l.change) l.change.name.now (take l.mark-index l.marks) (inserted_tuple l.change) l.fn.stale l.stale l.fn.held l.held
