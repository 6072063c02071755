use Rattle.ded_algebra.proofs.Compiled.{AreCompiled}
use Rattle.ded_algebra.proofs.compiling.+plan.Given as goal

abbrev pub invariant-plans-loop-goal : goal.invariant-plans-loop-goal
invariant-plans-loop-goal l = AreCompiled l.goal-items l.goal-index l.plans.items
