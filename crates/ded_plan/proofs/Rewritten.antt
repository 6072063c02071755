-- What is promised of the plan that is put in the place of a plan, put together.
use Rattle.ded_model.specs.PlanForm.{PlanForm}
use Rattle.ded_model.specs.Measure.{plan_atom_b, plan_atom_rank}
use Rattle.ded_plan.specs.Rewrite.{rewritten}
use Rattle.ded_plan.specs.Rewritten.{IsTidyPlan, IsRewritten}
use Rattle.ded_plan.proofs.Keeps.{one_sorted}
use Rattle.ded_plan.proofs.Kept.{keeps_rewritten}
use Rattle.ded_plan.proofs.PushedPlans.{pushed_rewritten}
use Rattle.ded_plan.proofs.ConjunctivePlans.{conjunctive_rewritten}

pub is_rewritten : (f : PlanForm) → IsTidyPlan f → IsRewritten f (rewritten f)
is_rewritten f t =
    let k = keeps_rewritten f in
    record {
      holds = k.holds;
      slots = k.slots;
      length = λ M. k.length (plan_atom_b M);
      rank = λ M. k.rank (plan_atom_rank M);
      lines = k.lines t;
      clashes = k.clashes t;
      scans = k.scans;
      atoms = k.atoms;
      conjunctive = conjunctive_rewritten f;
      pushed = pushed_rewritten f;
      tidy = k.tidy t;
      sorts = one_sorted f (rewritten f) k;
    }
