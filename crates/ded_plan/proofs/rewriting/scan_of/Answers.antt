use Rattle.std.proofs.Common.{subst}
use Rattle.ded_model.specs.Point.{AreDistinctSlots}
use Rattle.ded_plan.proofs.rewriting.scan_of.Goals as goal

pub returns-clause-distinct : goal.returns-clause-distinct
returns-clause-distinct c = subst AreDistinctSlots c.slots.view_is c.slots.invariant
