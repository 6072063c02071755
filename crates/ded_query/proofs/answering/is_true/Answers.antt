use Rattle.std.proofs.Common.{◌≡◌, Err, [], sym, ap, ◌∙◌}
use Rattle.std.proofs.lemmas.Result.{err_from_is_err_and}
use Rattle.ded_model.specs.declared.memory.Refused.TheVariants.{Wide}
use Rattle.ded_model.specs.Goal.{goal_form}
use Rattle.ded_model.specs.Row.{tuples_hold, tuples_mention}
use Rattle.ded_catalog.specs.Snapshots.{snapshot_of}
use Rattle.ded_query.proofs.Answered.{question_posed, not_tight, evaluated_closed, closed_truth}
use Rattle.ded_query.proofs.answering.is_true.Goals as goal

pub evaluated_over-requires-clause-posed : goal.evaluated_over-requires-clause-posed
evaluated_over-requires-clause-posed g c =
    question_posed (snapshot_of c.args.snapshot.now) [] (goal_form c.args.goal.now) c.requires.question.0 c.formed.ensures c.requires.question.1

pub returns-in_err-tuples-clause-wide : goal.returns-in_err-tuples-clause-wide
returns-in_err-tuples-clause-wide g c = λ i f q.
    let p = err_from_is_err_and c.from_residual.result c.from_residual.ensures.1 in
    let is : c.in_err-tuples.field-0.0 ≡ Wide = cc (p.1, p.2, i) in
    not_tight (snapshot_of c.args.snapshot.now) [] (goal_form c.args.goal.now) f q (c.in_err-tuples.ensures.wide (ap Err is))

pub holds_everywhere-requires : goal.holds_everywhere-requires
holds_everywhere-requires g c = record {
  closed = λ s. ap (λ ts. tuples_mention ts s) (c.deref.ensures.value ∙ c.tuples.view_is)
      ∙ evaluated_closed (snapshot_of c.args.snapshot.now) (goal_form c.args.goal.now) c.requires.question.0 c.in_ok-tuples.tuples c.requires.question.1 c.in_ok-tuples.ensures.is s;
}

pub returns-clause-truth : goal.returns-clause-truth
returns-clause-truth g c = λ f q.
    closed_truth (snapshot_of c.args.snapshot.now) (goal_form c.args.goal.now) f c.in_ok-tuples.tuples c.holds_everywhere.result q c.in_ok-tuples.ensures.is
    (λ p. ap (λ ts. tuples_hold ts p) (sym (c.deref.ensures.value ∙ c.tuples.view_is)) ∙ c.holds_everywhere.ensures p)
