use Rattle.std.proofs.Common.{◌≡◌, length, arith}
use Rattle.ded_algebra.proofs.Compiled.{compiled_more, compiled_plans}
use Rattle.ded_algebra.proofs.compiling.+plan.Goals as goal

pub plans-loop-goal-preserved : goal.plans-loop-goal-preserved
plans-loop-goal-preserved t c =
    compiled_more c.deref-goal-items.result.now c.loop-goal.goal-index c.loop-goal.plans.items c.push.new.self.items c.goal-item.result c.in_ok-plan.field-0
    c.loop-goal-test.true c.goal-item.is c.in_ok-plan.ensures.plan c.in_ok-plan.ensures.bytes c.in_ok-push.ensures.items c.loop-goal.invariant

pub plans-returns-clause-plans : goal.plans-returns-clause-plans
plans-returns-clause-plans t c =
    let i : c.loop-goal.goal-index ≡ length c.deref-goal-items.result.now = omega arith in
    compiled_plans c.deref-goal-items.result.now c.args.goals.now.items c.loop-goal.goal-index c.loop-goal.plans.items i c.deref-goal-items.ensures.value c.loop-goal.invariant
