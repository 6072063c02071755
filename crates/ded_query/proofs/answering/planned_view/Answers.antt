use Rattle.std.proofs.Common.{◌≡◌, Err, ap}
use Rattle.std.proofs.lemmas.Result.{err_from_is_err_and}
use Rattle.ded_model.specs.declared.memory.Refused.TheVariants.{Wide}
use Rattle.ded_catalog.specs.Snapshots.{snapshot_of}
use Rattle.ded_query.proofs.Answered.{view_is_posed}
use Rattle.ded_query.proofs.Entries.{view_clash}
use Rattle.ded_query.proofs.Evaluations.{evaluated_part}
use Rattle.ded_query.proofs.answering.planned_view.Goals as goal

pub planned_over-requires-clause-posed : goal.planned_over-requires-clause-posed
planned_over-requires-clause-posed g c =
    let p = c.requires.plan in
    record { goal = p.goal; posed = view_is_posed (snapshot_of c.args.snapshot.now) c.args.name.now p.goal c.formed.ensures p.view; planned = p.planned }

pub returns-in_err-tuples-clause-wide : goal.returns-in_err-tuples-clause-wide
returns-in_err-tuples-clause-wide g c = λ i.
    let cat = snapshot_of c.args.snapshot.now in
    let k = c.requires.plan in
    let p = err_from_is_err_and c.from_residual.result c.from_residual.ensures.1 in
    let is : c.in_err-tuples.field-0.0 ≡ Wide = cc (p.1, p.2, i) in
    view_clash cat c.args.name.now k.goal c.formed.ensures k.view
    (c.in_err-tuples.ensures.wide (ap Err is) k.goal (view_is_posed cat c.args.name.now k.goal c.formed.ensures k.view) k.planned)

pub returns-clause-is : goal.returns-clause-is
returns-clause-is g c =
    let cat = snapshot_of c.args.snapshot.now in
    let k = c.requires.plan in
    let r = c.in_ok-reduced.ensures in
    let e = c.in_ok-tuples.ensures.is k.goal (view_is_posed cat c.args.name.now k.goal c.formed.ensures k.view) k.planned in
    record {
      goal = k.goal;
      view = k.view;
      evaluated = evaluated_part cat k.goal c.in_ok-tuples.tuples c.in_ok-reduced.field-0 e r.holds r.slots r.lines;
      normal = r.normal;
    }
