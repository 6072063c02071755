use Rattle.ded_atoms.proofs.OwnSlots.{first_mentioned, last_mentioned}
use Rattle.ded_atoms.proofs.own_slots.theme_has_own_slot.Goals as goal

pub returns-then-is_free : goal.returns-then-is_free
returns-then-is_free c = λ e. (c.first_slot.result, first_mentioned c.args.atom.now c.first_slot.result c.first_slot.ensures, c.is_free.ensures c.if-is_free.true)

pub returns-else-is_free : goal.returns-else-is_free
returns-else-is_free c = λ e. (c.last_slot.result, last_mentioned c.args.atom.now c.last_slot.result c.last_slot.ensures, c.is_free-else-is_free.ensures e)
