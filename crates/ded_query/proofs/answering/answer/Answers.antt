use Rattle.std.proofs.Common.{◌≡◌, Err, ap}
use Rattle.std.proofs.lemmas.Result.{err_from_is_err_and}
use Rattle.ded_model.specs.declared.memory.Refused.TheVariants.{Wide}
use Rattle.ded_model.specs.Goal.{goal_form}
use Rattle.ded_catalog.specs.Snapshots.{snapshot_of}
use Rattle.ded_query.proofs.Answered.{question_posed, not_tight, answer_is}
use Rattle.ded_query.proofs.Evaluations.{evaluated_part}
use Rattle.ded_query.proofs.answering.answer.Goals as goal

pub evaluated_over-requires-clause-posed : goal.evaluated_over-requires-clause-posed
evaluated_over-requires-clause-posed g c =
    question_posed (snapshot_of c.args.snapshot.now) c.args.heading.now (goal_form c.args.goal.now) c.requires.question.0 c.formed.ensures c.requires.question.1

pub returns-in_err-tuples-clause-wide : goal.returns-in_err-tuples-clause-wide
returns-in_err-tuples-clause-wide g c = λ i f q.
    let p = err_from_is_err_and c.from_residual.result c.from_residual.ensures.1 in
    let is : c.in_err-tuples.field-0.0 ≡ Wide = cc (p.1, p.2, i) in
    not_tight (snapshot_of c.args.snapshot.now) c.args.heading.now (goal_form c.args.goal.now) f q (c.in_err-tuples.ensures.wide (ap Err is))

pub returns-clause-is : goal.returns-clause-is
returns-clause-is g c = λ f q.
    let cat = snapshot_of c.args.snapshot.now in
    let g = goal_form c.args.goal.now in
    let r = c.in_ok-reduced.ensures in
    answer_is cat c.args.heading.now g f c.in_ok-reduced.field-0 q (evaluated_part cat g c.in_ok-tuples.tuples c.in_ok-reduced.field-0 c.in_ok-tuples.ensures.is r.holds r.slots r.lines) r.normal r.reduced r.once r.orders (c.orderly_rows.ensures cat c.formed.ensures)
