use Rattle.std.proofs.lemmas.Result.{IfOk-weaker}
use Rattle.ded_model.specs.Goal.{goal_form}
use Rattle.ded_catalog.specs.Snapshots.{snapshot_of}
use Rattle.ded_query.proofs.Witnesses.{closed_normal}
use Rattle.ded_query.proofs.witness.closed_plan.Goals as goal

pub plan-requires : goal.plan-requires
plan-requires c =
    record { normal = closed_normal (snapshot_of c.args.snapshot.now) c.formed.ensures c.args.name.now (goal_form c.in_ok-goal.goal) c.in_ok-goal.ensures c.normal_goals.ensures.accepted }

pub returns : goal.returns
returns c = IfOk-weaker c.plan.result _ _ (λ f k. record { goal = goal_form c.in_ok-goal.goal; closed = c.in_ok-goal.ensures; planned = k }) c.plan.ensures
