use Rattle.std.proofs.Common.{sym, ◌∙◌}
use Rattle.ded_lex.proofs.Counting.{quote_on, text_on}
use Rattle.ded_lex.proofs.front.quoted_rest.Goals as goal

pub loop-i-preserved-then-byte-eq39 : goal.loop-i-preserved-then-byte-eq39
loop-i-preserved-then-byte-eq39 c = quote_on _ _ _ c.loop-i-test.true c.if-byte-eq39.true c.loop-i.invariant

pub loop-i-preserved : goal.loop-i-preserved
loop-i-preserved c = text_on _ _ _ c.loop-i-test.true c.if-byte-eq39.false c.if-closed.false (sym c.is_text_byte.ensures ∙ c.if-not-is_text_byte.false) c.loop-i.invariant
