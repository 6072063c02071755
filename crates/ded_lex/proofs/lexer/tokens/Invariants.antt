use Rattle.std.proofs.Common.{◌≤◌, ◌-◌, length}
use Rattle.ded_lex.proofs.TokenLists.{IsReadTo}
use Rattle.ded_lex.proofs.lexer.tokens.Given as goal

abbrev pub invariant-loop-at : goal.invariant-loop-at
invariant-loop-at l = record {
  within : l.at ≤ length l.bytes;
  read : IsReadTo l.bytes l.at l.list.items;
}

abbrev pub decreases-loop-at : goal.decreases-loop-at
decreases-loop-at l = length l.bytes - l.at
