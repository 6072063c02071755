use Rattle.std.proofs.Common.{◌≡◌, ◌≤◌, ◌+◌, length}
use Rattle.ded_terminals.specs.AtomReading.{brace_at}
use Rattle.ded_syntax.specs.CertificateReading.{entry_at, entries_at}
use Rattle.ded_terminals.specs.Items.{left}
use Rattle.ded_terminals.specs.Literals.{capped_reader}
use Rattle.ded_terminals.proofs.ListLoops.{list_left}
use Rattle.ded_syntax.proofs.certificate.entries.Given as goal

abbrev pub invariant-loop : goal.invariant-loop
invariant-loop l = record {
  same : list_left (entry_at capped_reader) brace_at (length (left l.items)) l.counter l.list.items (left l.rest) ≡ entries_at capped_reader (left l.items);
  low : length (left l.rest) + l.counter ≤ length (left l.items);
}
