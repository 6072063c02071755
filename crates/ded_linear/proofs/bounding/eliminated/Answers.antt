use Rattle.ded_linear.proofs.SlotLists.{others}
use Rattle.ded_linear.proofs.bounding.eliminated.Goals as goal

pub bounds_past-requires-clause-others : goal.bounds_past-requires-clause-others
bounds_past-requires-clause-others g c = others c.args.slot c.in_ok-others.others.items c.args.rows.now c.in_ok-others.ensures
