use Rattle.std.proofs.Common.{◌≡◌, ◌++◌}
use Rattle.ded_plan.proofs.joining.appended.Given as goal

abbrev pub invariant-loop-other : goal.invariant-loop-other
invariant-loop-other l = l.plans.items ≡ l.fn.plans.items ++ l.yielded
