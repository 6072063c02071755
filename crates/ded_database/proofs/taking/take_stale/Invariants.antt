use Rattle.std.proofs.Common.{take}
use Rattle.ded_catalog.specs.State.{catalogue_of}
use Rattle.ded_database.specs.Renewed.{AreTaken}
use Rattle.ded_database.proofs.taking.take_stale.Given as goal

abbrev pub invariant-loop-mark : goal.invariant-loop-mark
invariant-loop-mark l = AreTaken (catalogue_of l.catalogue) l.name (take l.mark-index l.marks) l.fn.held l.held l.stale
