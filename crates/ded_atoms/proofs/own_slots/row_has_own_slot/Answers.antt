use Rattle.std.proofs.Common.{◌∙◌, ap}
use Rattle.ded_atoms.proofs.OwnSlots.{coef_mentioned}
use Rattle.ded_atoms.proofs.own_slots.row_has_own_slot.Goals as goal

pub returns-then-is_free : goal.returns-then-is_free
returns-then-is_free c = λ e. (
  _,
  coef_mentioned c.args.row.now c.list-entry-items.result.now c.loop-entry.entry-index _ (c.list-entry-items.ensures.value ∙ ap (λ r. r.coefs) c.row.view_is) c.loop-entry-test.true,
  c.is_free.ensures c.if-is_free.true,
)
