use Rattle.std.proofs.Common.{sym, ◌∙◌}
use Rattle.ded_atoms.proofs.OwnSlots.{free_of_both}
use Rattle.ded_atoms.proofs.own_slots.is_free.Goals as goal
use Rattle.std.proofs.lemmas.Bool.{not-true}

pub returns-then-not-mention : goal.returns-then-not-mention
returns-then-not-mention c = λ e.
    free_of_both c.args.before.now c.args.after.now c.args.slot (sym c.mention.ensures ∙ c.if-not-mention.true)
    (sym c.mention-then-not-mention.ensures ∙ not-true c.mention-then-not-mention.result e)
