use Rattle.std.proofs.Common.{◌≡◌, ◌≤◌, ◌+◌, length}
use Rattle.ded_grammar.specs.Forms.{terminal_forms}
use Rattle.ded_terminals.specs.Items.{left}
use Rattle.ded_terminals.specs.AtomReading.{terminals_at}
use Rattle.ded_terminals.specs.Literals.{capped_reader}
use Rattle.ded_terminals.proofs.TerminalLoops.{terminals_left}
use Rattle.ded_terminals.proofs.terminals.terminals.Given as goal

abbrev pub invariant-loop : goal.invariant-loop
invariant-loop l = record {
  same : terminals_left capped_reader (length (left l.items)) l.counter (terminal_forms l.list.items) (left l.rest) ≡ terminals_at capped_reader (left l.items);
  low : length (left l.rest) + l.counter ≤ length (left l.items);
}
