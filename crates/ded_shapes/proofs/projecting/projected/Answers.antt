use Rattle.std.proofs.Common.{◌≡◌, List, ◌∙◌, ap, sym, subst, rules}
use Rattle.std.specs.List.{AllByRecursion}
use Rattle.std.proofs.lemmas.Result.{IfOk-weaker}
use Rattle.ded_model.specs.Constraint.{LinearConstraint}
use Rattle.ded_model.specs.Cell.{conj_holds}
use Rattle.ded_model.specs.Lines.{row_lines}
use Rattle.ded_model.specs.Normal.{IsNormalTheme, IsNormalTuple}
use Rattle.ded_model.specs.Row.{row_holds, row_mentions}
use Rattle.ded_theory.specs.Both.{firsts, seconds}
use Rattle.ded_theory.specs.Conjunctions.{IsWide}
use Rattle.ded_elimination.specs.LinearAtoms.{IsLinearAtom}
use Rattle.ded_shapes.specs.Projections.{IsProjection}
use Rattle.ded_shapes.proofs.Tuples.{inhabited, empty, rows_normal, texts_normal, no_text, too_wide, with_texts}
use Rattle.ded_shapes.proofs.projecting.projected.Goals as goal

pub refute-requires : goal.refute-requires
refute-requires c =
    let normal : IsNormalTuple c.args.tuple.now = search rules in
    let texts : c.deref-2.result.now ≡ seconds c.args.tuple.now = c.deref-2.ensures.value ∙ c.in_ok-texts.ensures ∙ ap seconds (c.deref.ensures.value ∙ c.tuple.view_is) in
    record { normal = subst (AllByRecursion IsNormalTheme) (sym texts) (texts_normal c.args.tuple.now normal) }

pub returns-in-Empty-clause-is : goal.returns-in-Empty-clause-is
returns-in-Empty-clause-is c =
    let normal : IsNormalTuple c.args.tuple.now = search rules in
    let texts : c.deref-2.result.now ≡ seconds c.args.tuple.now = c.deref-2.ensures.value ∙ c.in_ok-texts.ensures ∙ ap seconds (c.deref.ensures.value ∙ c.tuple.view_is) in
    no_text c.args.tuple.now normal (empty (seconds c.args.tuple.now) c.deref-2.result.now c.in_ok-refute.field-0 texts c.in-Empty.is c.in_ok-refute.ensures.verdict)

pub rows_projected-requires : goal.rows_projected-requires
rows_projected-requires c =
    let normal : IsNormalTuple c.args.tuple.now = search rules in
    let rows : c.in_ok-rows.rows.items ≡ firsts c.args.tuple.now = c.in_ok-rows.ensures ∙ ap firsts (c.deref-3.ensures.value ∙ c.tuple.view_is) in
    record { normal = subst (AllByRecursion IsLinearAtom) (sym rows) (rows_normal c.args.tuple.now normal) }

pub returns : goal.returns
returns c =
    let normal : IsNormalTuple c.args.tuple.now = search rules in
    let texts : c.deref-2.result.now ≡ seconds c.args.tuple.now = c.deref-2.ensures.value ∙ c.in_ok-texts.ensures ∙ ap seconds (c.deref.ensures.value ∙ c.tuple.view_is) in
    let rows : c.in_ok-rows.rows.items ≡ firsts c.args.tuple.now = c.in_ok-rows.ensures ∙ ap firsts (c.deref-3.ensures.value ∙ c.tuple.view_is) in
    let some = inhabited (seconds c.args.tuple.now) c.deref-2.result.now c.in_ok-refute.field-0 texts c.in_default.not-Empty (c.in_ok-refute.ensures.decided tt) c.in_ok-refute.ensures.verdict in
    record {
      is = IfOk-weaker c.rows_projected.result (λ v. IsProjection c.args.x c.args.y (conj_holds row_holds c.in_ok-rows.rows.items) v) _
          (λ v h. with_texts c.args.tuple.now normal some c.args.x c.args.y c.requires.x_rational c.requires.y_rational v
          (subst (λ (rs : List LinearConstraint). IsProjection c.args.x c.args.y (conj_holds row_holds rs) v) rows h))
          c.rows_projected.ensures.is;
      wide = λ w narrow. too_wide c.args.tuple.now normal some (subst (IsWide row_mentions row_lines) rows (c.rows_projected.ensures.wide w)) narrow;
    }
