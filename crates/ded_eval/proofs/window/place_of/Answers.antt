use Rattle.std.proofs.Common.{sym, ◌∙◌}
use Rattle.ded_eval.proofs.Placed.{stands_at}
use Rattle.ded_eval.proofs.window.place_of.Goals as goal

pub returns-then-is_same : goal.returns-then-is_same
returns-then-is_same c = stands_at c.args.slots.now c.loop-i.i _ c.args.slot c.loop-i-test.true (sym c.is_same.ensures ∙ c.if-is_same.true)
