use Rattle.std.proofs.Common.{refl, ap, sym, ◌∙◌}
use Rattle.std.proofs.lemmas.Iterator.Adapters.{YieldsList-from_vec}
use Rattle.std.proofs.lemmas.Iterator.Consumers.{YieldsList-end}
use Rattle.ded_model.specs.Logic.{also}
use Rattle.ded_plan.specs.Rewrite.{each_rewritten}
use Rattle.ded_plan.proofs.PlanLists.{made_one, made_yielded}
use Rattle.ded_plan.proofs.TidyPlans.{tidy_last}
use Rattle.ded_plan.proofs.rewriting.+rewritten.Goals as goal

pub each_rewritten-loop-plan-preserved : goal.each_rewritten-loop-plan-preserved
each_rewritten-loop-plan-preserved t c = (
  made_one each_rewritten c.loop-plan.yielded c.loop-plan.done.items c.push.new.self.items c.in-Some.plan c.in_ok-rewritten.field-0
      (λ fs. ap (λ g. also g (each_rewritten fs)) (sym c.in_ok-rewritten.ensures.plan)) c.in_ok-push.ensures.items c.loop-plan.invariant.0,
  tidy_last c.loop-plan.yielded c.in-Some.plan c.loop-plan.invariant.1 c.in_ok-rewritten.ensures.tidy,
)

pub each_rewritten-returns-clause-plans : goal.each_rewritten-returns-clause-plans
each_rewritten-returns-clause-plans t c =
    let gives = c.into_iter-plan-iterator.ensures.into_iter_gives in
    let all = YieldsList-end (YieldsList-from_vec c.args.plans.items gives.0 (gives.1 ∙ c.args.plans.ok.0)) c.loop-plan.yielded c.loop-plan.plan-iterator c.loop-plan.yielded_by c.next.result c.next.new.self c.in-None.is c.next.ensures.steps in
    made_yielded each_rewritten refl c.loop-plan.yielded c.loop-plan.done.items c.args.plans.items all.0 c.loop-plan.invariant.0
