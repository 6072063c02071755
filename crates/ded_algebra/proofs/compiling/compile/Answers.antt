use Rattle.std.proofs.Common.{sym, subst}
use Rattle.ded_model.specs.Goal.{goal_form}
use Rattle.ded_algebra.specs.Compiled.{IsCompiled}
use Rattle.ded_algebra.proofs.Compiled.{plan_compiled}
use Rattle.ded_algebra.proofs.compiling.compile.Goals as goal

pub returns : goal.returns
returns c =
    let g = goal_form c.args.goal.now in
    subst (IsCompiled g) (sym c.in_ok-plan.ensures.plan) (plan_compiled g c.requires.normal c.in_ok-plan.ensures.bytes)
