use Rattle.std.proofs.Common.{◌≡◌, ◌≤◌, length, map, ◌+◌, ◌-◌, ◌*◌}
use Rattle.ded_model.specs.Form.{form}
use Rattle.ded_grammar.specs.Forms.{terminal_forms}
use Rattle.ded_grammar.specs.Building.{chain, after_conjunct, after_disjunct, read_one, both_by}
use Rattle.ded_grammar.proofs.Chains.{with_front}
use Rattle.ded_grammar.proofs.build.+read.Given as goal

abbrev pub decreases-one : goal.decreases-one
decreases-one l = 5 * l.room

abbrev pub decreases-both : goal.decreases-both
decreases-both l = 5 * l.room + 1

abbrev pub decreases-either : goal.decreases-either
decreases-either l = 5 * l.room + 2

abbrev pub decreases-whole : goal.decreases-whole
decreases-whole l = 5 * l.room + 3

abbrev pub decreases-body : goal.decreases-body
decreases-body l = 5 * l.room + 4

abbrev pub invariant-both-loop : goal.invariant-both-loop
invariant-both-loop l = record {
  same : with_front (map form l.parts.items) l.nesting (chain (read_one l.room) after_conjunct (length (terminal_forms l.terminals) - l.counter) (terminal_forms l.rest)) ≡ chain (read_one l.room) after_conjunct (length (terminal_forms l.terminals)) (terminal_forms l.terminals);
  low : l.nesting ≤ l.room - 1;
}

abbrev pub invariant-either-loop : goal.invariant-either-loop
invariant-either-loop l = record {
  same : with_front (map form l.parts.items) l.nesting (chain (both_by (read_one l.room)) after_disjunct (length (terminal_forms l.terminals) - l.counter) (terminal_forms l.rest)) ≡ chain (both_by (read_one l.room)) after_disjunct (length (terminal_forms l.terminals)) (terminal_forms l.terminals);
  low : l.nesting ≤ l.room - 1;
}
