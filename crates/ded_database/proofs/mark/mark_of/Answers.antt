use Rattle.std.proofs.Common.{sym, subst}
use Rattle.ded_model.specs.Entries.{known}
use Rattle.ded_model.specs.Goal.{goal_form}
use Rattle.ded_model.specs.NormalGoal.{IsNormalGoal}
use Rattle.ded_catalog.specs.State.{catalogue_of}
use Rattle.ded_views.proofs.ViewGoals.{view_goal}
use Rattle.ded_views.proofs.Views.{view_accepted}
use Rattle.ded_database.proofs.MarksOfViews.{is_mark}
use Rattle.ded_database.proofs.ReachedNames.{used_below_all}
use Rattle.ded_database.proofs.mark.mark_of.Goals as goal

pub plan-requires : goal.plan-requires
plan-requires c =
    let cat = catalogue_of c.args.catalogue.now in
    let v = view_goal cat c.args.name.now (goal_form c.in-Some.goal.now) c.in-Some.ensures in
    let accepted = view_accepted cat c.formed.ensures c.args.name.now v.own v.columns v.formula v.entry in
    record { normal = subst IsNormalGoal (sym v.goal) (c.normal_goals.ensures.accepted (known cat) v.columns v.formula accepted) }

pub uses_of-requires : goal.uses_of-requires
uses_of-requires c =
    let cat = catalogue_of c.args.catalogue.now in
    let g = goal_form c.in-Some.goal.now in
    record { below = used_below_all cat c.formed.ensures c.args.name.now g (view_goal cat c.args.name.now g c.in-Some.ensures) }

pub returns-clause-mark : goal.returns-clause-mark
returns-clause-mark c =
    let cat = catalogue_of c.args.catalogue.now in
    let g = goal_form c.in-Some.goal.now in
    is_mark cat c.args.name.now g (record { name = c.in_ok-copy.field-0; plan = c.in_ok-plan.field-0; used = c.in_ok-uses_of.field-0 })
    (view_goal cat c.args.name.now g c.in-Some.ensures) c.in_ok-copy.ensures c.in_ok-plan.ensures c.in_ok-uses_of.ensures.used c.in_ok-uses_of.ensures.reached
