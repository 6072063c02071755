use Rattle.std.proofs.Common.{◌++◌}
use Rattle.ded_model.specs.PlanForm.{plan_form}
use Rattle.ded_keep.specs.Remaining.{AreLeft}
use Rattle.ded_keep.proofs.removing.left_of.Given as goal

abbrev pub invariant-loop-tuple : goal.invariant-loop-tuple
invariant-loop-tuple g l = AreLeft (g.A.Relations.catalogue l.after) (plan_form l.plan) l.lost (l.initial.list.items ++ l.yielded) (l.list.items ++ l.cut.items)
