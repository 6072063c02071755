use Rattle.std.proofs.Common.{sym, ◌∙◌}
use Rattle.ded_relation.proofs.Coded.{text_at_is, text_at_not, not_less}
use Rattle.ded_relation.proofs.fixed.is_text_at.Goals as goal

pub returns-then-place-columns : goal.returns-then-place-columns
returns-then-place-columns c = c.is_text.ensures ∙ sym (text_at_is c.args.columns.now c.args.place c.index-columns-place.result c.if-place-columns.true)

pub returns-else-place-columns : goal.returns-else-place-columns
returns-else-place-columns c = not_less c.args.place _ c.if-place-columns.false ∙ sym (text_at_not c.args.columns.now c.args.place c.if-place-columns.false)
