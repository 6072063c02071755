use Rattle.std.proofs.Common.{◌≡◌, ◌≤◌, ◌+◌, length}
use Rattle.ded_terminals.specs.Items.{left}
use Rattle.ded_terminals.specs.Literals.{capped}
use Rattle.ded_terminals.specs.OperandReading.{all_parts}
use Rattle.ded_terminals.specs.Views.{seen_parts, ArePositive}
use Rattle.ded_terminals.proofs.side.more.Given as goal

abbrev pub invariant-loop-minus : goal.invariant-loop-minus
invariant-loop-minus l = record {
  read : all_parts capped (seen_parts l.parts.items) (left l.rest) ≡ all_parts capped (seen_parts l.fn.parts.items) (left l.items);
  few : length l.parts.items + length l.parts.items + length (left l.rest) ≤ length l.fn.parts.items + length l.fn.parts.items + length (left l.items);
  low : length (left l.rest) ≤ length (left l.items);
  positive : ArePositive l.fn.parts.items → ArePositive l.parts.items;
}

abbrev pub decreases-loop-minus : goal.decreases-loop-minus
decreases-loop-minus l = length (left l.rest)
