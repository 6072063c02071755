use Rattle.std.proofs.Common.{◌≡◌, ◌≤◌, ◌+◌, length}
use Rattle.ded_terminals.specs.Items.{left}
use Rattle.ded_terminals.specs.AtomReading.{comma_at, column_at}
use Rattle.ded_syntax.specs.CommandReading.{columns_at}
use Rattle.ded_terminals.proofs.ListLoops.{list_left}
use Rattle.ded_syntax.proofs.draft.columns.Given as goal

abbrev pub invariant-loop : goal.invariant-loop
invariant-loop l = record {
  same : list_left column_at comma_at (length (left l.items)) l.counter l.list.items (left l.rest) ≡ columns_at (left l.items);
  low : length (left l.rest) + l.counter ≤ length (left l.items);
}
