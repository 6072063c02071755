use Rattle.std.proofs.Common.{◌≡◌, ◌+◌, ◌*◌, ◌++◌, drop}
use Rattle.ded_weighing.specs.Columns.{lent}
use Rattle.ded_cert.specs.Tracing.{traces}
use Rattle.ded_cert.proofs.tracing.traces.Given as goal

abbrev pub invariant-loop-row : goal.invariant-loop-row
invariant-loop-row l = record {
  number : l.number ≡ l.first + 2 + 2 * l.row-index;
  same : l.traced.items ++ traces l.first l.number (lent (drop l.row-index l.rows)) ≡ traces l.first (l.first + 2) (lent l.rows);
}
