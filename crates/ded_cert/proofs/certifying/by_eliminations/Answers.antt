use Rattle.std.proofs.Common.{◌≡◌, ◌++◌, ◌∙◌, Err, ap, subst}
use Rattle.std.proofs.lemmas.Result.{err_from_is_err_and}
use Rattle.ded_model.specs.declared.memory.Refused.TheVariants.{Wide}
use Rattle.ded_model.specs.Row.{row_holds, row_mentions}
use Rattle.ded_model.specs.Lines.{row_lines}
use Rattle.ded_theory.specs.declared.answers.Verdict.TheVariants.{Inhabited, Unknown}
use Rattle.ded_theory.specs.Both.{firsts}
use Rattle.ded_theory.specs.Verdicts.{IsVerdict}
use Rattle.ded_weighing.specs.Columns.{lent}
use Rattle.ded_cert.specs.Tracing.{AreWideRows}
use Rattle.ded_cert.proofs.Lengths.{wide_pair, unknown_wide}
use Rattle.ded_cert.proofs.Meeting.{common_point}
use Rattle.ded_cert.proofs.Parts.{rows_with_coefs}
use Rattle.ded_cert.proofs.certifying.by_eliminations.Goals as goal

pub returns-in-Inhabited-clause-is : goal.returns-in-Inhabited-clause-is
returns-in-Inhabited-clause-is c =
    let same = c.deref-2.ensures.value ∙ c.in_ok-copied.ensures ∙ ap lent c.deref.ensures.value ∙ c.in_ok-rows.ensures.value in
    common_point c.args.first.now c.args.second.now c.in_ok-rows.ensures.tuples.0 c.in_ok-rows.ensures.tuples.1
    (subst (λ rs. IsVerdict row_holds row_mentions row_lines rs Inhabited) same (subst (IsVerdict row_holds row_mentions row_lines c.deref-2.result.now) c.in-Inhabited.is c.in_ok-refute.ensures.verdict))
    c.requires

pub returns-in-Unknown-clause-wide : goal.returns-in-Unknown-clause-wide
returns-in-Unknown-clause-wide c = λ e.
    let same = c.deref-2.ensures.value ∙ c.in_ok-copied.ensures ∙ ap lent c.deref.ensures.value ∙ c.in_ok-rows.ensures.value in
    wide_pair c.args.first.now c.args.second.now (rows_with_coefs c.args.first.now c.args.second.now c.in_ok-rows.ensures.tuples.0 c.in_ok-rows.ensures.tuples.1)
    (unknown_wide (firsts (c.args.first.now ++ c.args.second.now))
    (subst (λ rs. IsVerdict row_holds row_mentions row_lines rs Unknown) same (subst (IsVerdict row_holds row_mentions row_lines c.deref-2.result.now) c.in-Unknown.is c.in_ok-refute.ensures.verdict)))

pub returns-in_err-short_refutation-in-Empty-clause-wide : goal.returns-in_err-short_refutation-in-Empty-clause-wide
returns-in_err-short_refutation-in-Empty-clause-wide c = λ e.
    let p = err_from_is_err_and c.from_residual-in_err-short_refutation-in-Empty.result c.from_residual-in_err-short_refutation-in-Empty.ensures.1 in
    let is : c.in_err-short_refutation-in-Empty.field-0.0 ≡ Wide = cc (p.1, p.2, e) in
    wide_pair c.args.first.now c.args.second.now (rows_with_coefs c.args.first.now c.args.second.now c.in_ok-rows.ensures.tuples.0 c.in_ok-rows.ensures.tuples.1)
    (subst AreWideRows (ap lent c.deref-in-Empty.ensures.value ∙ c.in_ok-rows.ensures.value) (c.in_err-short_refutation-in-Empty.ensures.wide (ap Err is)))
