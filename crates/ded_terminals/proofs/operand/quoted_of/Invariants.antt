use Rattle.std.proofs.Common.{◌≡◌, ◌++◌, length}
use Rattle.ded_lex.specs.Tokens.{undoubled, quoted_value}
use Rattle.ded_terminals.proofs.operand.quoted_of.Given as goal

abbrev pub invariant-loop-rest : goal.invariant-loop-rest
invariant-loop-rest l = l.bytes.items ++ undoubled l.rest ≡ quoted_value l.text

abbrev pub decreases-loop-rest : goal.decreases-loop-rest
decreases-loop-rest l = length l.rest
