use Rattle.ded_model.specs.Goal.{goal_form}
use Rattle.ded_catalog.specs.Snapshots.{snapshot_of}
use Rattle.ded_query.proofs.Posed.{posed_normal}
use Rattle.ded_query.proofs.answering.evaluated_over.Goals as goal

pub plan-requires : goal.plan-requires
plan-requires g c =
    record { normal = posed_normal (snapshot_of c.args.snapshot.now) (goal_form c.args.goal.now) 16 c.requires.posed c.normal_goals.ensures.accepted }

pub planned_over-requires-clause-posed : goal.planned_over-requires-clause-posed
planned_over-requires-clause-posed g c = record { goal = goal_form c.args.goal.now; posed = c.requires.posed; planned = c.in_ok-plan.ensures }

pub returns-clause-is : goal.returns-clause-is
returns-clause-is g c = c.planned_over.ensures.is (goal_form c.args.goal.now) c.requires.posed c.in_ok-plan.ensures

pub returns-clause-wide : goal.returns-clause-wide
returns-clause-wide g c = λ i. c.planned_over.ensures.wide i (goal_form c.args.goal.now) c.requires.posed c.in_ok-plan.ensures
