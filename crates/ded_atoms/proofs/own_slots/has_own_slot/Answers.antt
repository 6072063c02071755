use Rattle.ded_atoms.proofs.OwnSlots.{own_row, own_theme}
use Rattle.ded_atoms.proofs.own_slots.has_own_slot.Goals as goal

pub returns-in-First : goal.returns-in-First
returns-in-First c = λ e. own_row c.args.before.now c.args.atom.now c.args.after.now c.in-First.row c.in-First.is (c.row_has_own_slot.ensures e)

pub returns-in-Second : goal.returns-in-Second
returns-in-Second c = λ e. own_theme c.args.before.now c.args.atom.now c.args.after.now c.in-Second.atom c.in-Second.is (c.theme_has_own_slot.ensures e)
