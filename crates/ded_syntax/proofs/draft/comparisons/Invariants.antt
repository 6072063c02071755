use Rattle.std.proofs.Common.{◌≡◌, ◌≤◌, ◌+◌, length}
use Rattle.ded_terminals.specs.Items.{left}
use Rattle.std.specs.Prelude.{map}
use Rattle.ded_model.specs.Form.{form}
use Rattle.ded_terminals.specs.AtomReading.{brace_at, compare_at}
use Rattle.ded_syntax.specs.CommandReading.{forms_at}
use Rattle.ded_terminals.specs.Literals.{capped_reader}
use Rattle.ded_terminals.proofs.ListLoops.{list_left}
use Rattle.ded_syntax.proofs.draft.comparisons.Given as goal

abbrev pub invariant-loop : goal.invariant-loop
invariant-loop l = record {
  same : list_left (compare_at capped_reader) brace_at (length (left l.items)) l.counter (map form l.list.items) (left l.rest) ≡ forms_at capped_reader (left l.items);
  low : length (left l.rest) + l.counter ≤ length (left l.items);
}
