use Rattle.std.proofs.Common.{◌≡◌, ◌≤◌, ◌+◌, length}
use Rattle.ded_terminals.specs.Items.{left}
use Rattle.ded_terminals.specs.AtomReading.{argument_at, comma_at, operands_at}
use Rattle.ded_terminals.specs.Literals.{capped_reader}
use Rattle.ded_terminals.proofs.ListLoops.{list_left}
use Rattle.ded_terminals.proofs.atom.operands.Given as goal

abbrev pub invariant-loop : goal.invariant-loop
invariant-loop l = record {
  same : list_left (argument_at capped_reader) comma_at (length (left l.items)) l.counter l.list.items (left l.rest) ≡ operands_at capped_reader (left l.items);
  low : length (left l.rest) + l.counter ≤ length (left l.items);
}
