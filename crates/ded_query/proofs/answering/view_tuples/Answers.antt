use Rattle.std.proofs.Common.{◌≡◌, Err, ap}
use Rattle.std.proofs.lemmas.Result.{err_from_is_err_and}
use Rattle.ded_model.specs.declared.memory.Refused.TheVariants.{Wide}
use Rattle.ded_model.specs.Entries.{entry_of, view_in}
use Rattle.ded_model.specs.Goal.{goal_form}
use Rattle.ded_catalog.specs.Snapshots.{snapshot_of}
use Rattle.ded_query.proofs.Answered.{view_is_posed}
use Rattle.ded_query.proofs.Entries.{view_goal, view_clash, view_missing}
use Rattle.ded_query.proofs.Evaluations.{evaluated_part}
use Rattle.ded_query.proofs.answering.view_tuples.Goals as goal

pub unreachable-requires : goal.unreachable-requires
unreachable-requires g c = view_missing (view_in (entry_of (snapshot_of c.args.snapshot.now).entries c.args.name.now)) c.requires.view c.in_default.ensures

pub evaluated_over-requires-clause-posed : goal.evaluated_over-requires-clause-posed
evaluated_over-requires-clause-posed g c =
    let cat = snapshot_of c.args.snapshot.now in
    let g = goal_form c.in-Some.goal.now in
    view_is_posed cat c.args.name.now g c.formed.ensures (view_goal cat c.args.name.now g c.in-Some.ensures)

pub returns-in_err-tuples-clause-wide : goal.returns-in_err-tuples-clause-wide
returns-in_err-tuples-clause-wide g c = λ i.
    let cat = snapshot_of c.args.snapshot.now in
    let g = goal_form c.in-Some.goal.now in
    let p = err_from_is_err_and c.from_residual.result c.from_residual.ensures.1 in
    let is : c.in_err-tuples.field-0.0 ≡ Wide = cc (p.1, p.2, i) in
    view_clash cat c.args.name.now g c.formed.ensures (view_goal cat c.args.name.now g c.in-Some.ensures) (c.in_err-tuples.ensures.wide (ap Err is))

pub returns-clause-is : goal.returns-clause-is
returns-clause-is g c =
    let cat = snapshot_of c.args.snapshot.now in
    let g = goal_form c.in-Some.goal.now in
    let r = c.in_ok-reduced.ensures in
    record {
      goal = g;
      view = view_goal cat c.args.name.now g c.in-Some.ensures;
      evaluated = evaluated_part cat g c.in_ok-tuples.tuples c.in_ok-reduced.field-0 c.in_ok-tuples.ensures.is r.holds r.slots r.lines;
      normal = r.normal;
    }
