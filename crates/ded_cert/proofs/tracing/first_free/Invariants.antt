use Rattle.std.proofs.Common.{◌^◌, ◌<◌, take}
use Rattle.ded_weighing.specs.Columns.{lent}
use Rattle.ded_cert.specs.Tracing.{AreBelow}
use Rattle.ded_cert.proofs.tracing.first_free.Given as goal

abbrev pub invariant-loop-row : goal.invariant-loop-row
invariant-loop-row l = l.least < 2 ^ 31 → AreBelow l.least (lent (take l.row-index l.rows))
