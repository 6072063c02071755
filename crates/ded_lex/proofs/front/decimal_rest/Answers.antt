use Rattle.std.proofs.Common.{sym, ◌∙◌}
use Rattle.ded_lex.proofs.Counting.{digit_on}
use Rattle.ded_lex.proofs.front.decimal_rest.Goals as goal

pub loop-i-preserved : goal.loop-i-preserved
loop-i-preserved c = digit_on _ _ c.loop-i-test.true (sym c.is_digit.ensures ∙ c.if-is_digit.true) c.loop-i.invariant
