use Rattle.std.proofs.Common.{rules, ◌≡◌, true, ◌∷◌, [], ◌∙◌, sym, ap, subst, take, map, refl}
use Rattle.std.proofs.lemmas.Result.{IfOk-weaker}
use Rattle.std.specs.List.{AllByRecursion}
use Rattle.ded_model.specs.declared.plan.Plan.TheFolds.{fold-roll-Plan, fold_out-Plan}
use Rattle.ded_model.specs.declared.plan.Plan.TheViews.{the_lemmas}
use Rattle.ded_model.specs.Cell.{conj_holds}
use Rattle.ded_model.specs.Logic.{atom, some_of, exists}
use Rattle.ded_model.specs.PlanForm.{rows, plan_form, plan_forms}
use Rattle.ded_model.specs.Point.{slot, Point, IsPoint, IsExtension}
use Rattle.ded_theory.proofs.Conjunctions.{conj_holds-extended}
use Rattle.ded_genrel.specs.Lists.{conjs_of}
use Rattle.ded_genrel.specs.Operations.{IsMeet}
use Rattle.ded_genrel.proofs.Items.{normal-at}
use Rattle.ded_algebra.specs.Evaluation.{IsScannable}
use Rattle.ded_eval.specs.Finding.{IsFoundIn, IsFoundWith}
use Rattle.ded_eval.proofs.Parts.{part_rows, parts_to, rest_atoms}
use Rattle.ded_eval.proofs.Shown.{found_append, found_part, found_projected, with_append, with_conj, IsFoundFrom, from_more_rows, from_more}
use Rattle.ded_eval.proofs.finding.+few.Goals as goal

pub few-returns-in_ok-rows-in-Rows : goal.few-returns-in_ok-rows-in-Rows
few-returns-in_ok-rows-in-Rows g t c =
    let cat = g.R.Relations.catalogue c.args.relations.now in
    let e : plan_form c.args.plan.now ≡ atom (rows c.in-Rows.tuple) = search (rules, the_lemmas, fold-roll-Plan, fold_out-Plan) in
    subst (λ f. IsFoundIn g.T.Theory.holds cat (conj_holds g.T.Theory.holds c.args.window.now) f c.in_ok-rows-in-Rows.field-0) (sym e) (λ p i w x. ((c.in_ok-rows-in-Rows.ensures cat).holds p i refl).0 x)

pub few-returns-in_ok-list-in-Project : goal.few-returns-in_ok-list-in-Project
few-returns-in_ok-list-in-Project g t c =
    let h = g.T.Theory.holds in
    let cat = g.R.Relations.catalogue c.args.relations.now in
    let e : plan_form c.args.plan.now ≡ exists c.in-Project.slot.sort (slot c.in-Project.slot) (plan_form c.deref.result.now) = search (rules, the_lemmas, fold-roll-Plan, fold_out-Plan) in
    let stays : (p q : Point) → IsPoint p → IsExtension c.in-Project.slot.sort p (slot c.in-Project.slot) q → conj_holds h c.args.window.now p ≡ true → conj_holds h c.deref-in-Project.result.now q ≡ true
    = λ p q i x w. ap (λ xs. conj_holds h xs q) c.deref-in-Project.ensures.value ∙ sym (conj_holds-extended h g.T.Theory.mentions g.met.T.Theory.respects c.in_ok-outside-in-Project.outside.items c.in-Project.slot p q i.positive c.in_ok-outside-in-Project.ensures.slot x) ∙ c.in_ok-outside-in-Project.ensures.weaker p w in
    IfOk-weaker c.project.result _ _ (λ r k.
    subst (λ f. IsFoundIn h cat (conj_holds h c.args.window.now) f r) (sym e)
    (found_projected h cat (conj_holds h c.args.window.now) g.T.Theory.mentions g.T.Theory.lines (conj_holds h c.deref-in-Project.result.now) (plan_form c.deref.result.now) c.in-Project.slot c.in_ok-list-in-Project.list r stays c.in_ok-list-in-Project.ensures k)) c.project.ensures.is

pub few_joined-loop-part-preserved-then-is_rows : goal.few_joined-loop-part-preserved-then-is_rows
few_joined-loop-part-preserved-then-is_rows g t c =
    let h = g.T.Theory.holds in
    let cat = g.R.Relations.catalogue c.args.relations.now in
    let inside = conj_holds h c.args.window.now in
    let items = c.deref-part-items.result.now in
    let i = c.loop-part.part-index in (
      subst (λ fs. IsFoundFrom h cat inside (map plan_form items) fs c.loop-part.list) (sym (parts_to items i c.part-item.result c.loop-part-test.true c.part-item.is))
          (from_more_rows h cat inside (map plan_form items) (map plan_form (take i items)) (plan_form c.part-item.result) c.loop-part.list (sym c.is_rows.ensures ∙ c.if-is_rows.true) (λ p k. part_rows items i c.part-item.result p c.loop-part-test.true c.part-item.is k) c.loop-part.invariant.0),
      rest_atoms (IsScannable g.T.OfTuples.reads cat) items i c.loop-part-test.true c.loop-part.invariant.1,
    )

pub few_joined-loop-part-preserved : goal.few_joined-loop-part-preserved
few_joined-loop-part-preserved g t c =
    let h = g.T.Theory.holds in
    let cat = g.R.Relations.catalogue c.args.relations.now in
    let inside = conj_holds h c.args.window.now in
    let items = c.deref-part-items.result.now in
    let i = c.loop-part.part-index in (
      subst (λ fs. IsFoundFrom h cat inside (map plan_form items) fs c.in_ok-list-2.list) (sym (parts_to items i c.part-item.result c.loop-part-test.true c.part-item.is))
          (from_more h cat inside (map plan_form items) (map plan_form (take i items)) (plan_form c.part-item.result) c.loop-part.list c.in_ok-list-2.list c.loop-part.invariant.0 c.in_ok-list-2.ensures),
      rest_atoms (IsScannable g.T.OfTuples.reads cat) items i c.loop-part-test.true c.loop-part.invariant.1,
    )

pub few_with-with_atoms-requires-clause-conj : goal.few_with-with_atoms-requires-clause-conj
few_with-with_atoms-requires-clause-conj g t c =
    subst (AllByRecursion g.T.Theory.normal) (sym c.deref.ensures.value) (normal-at g.T.Theory.normal c.list-conj-items.result.now c.loop-conj.conj-index c.conj-item.result c.loop-conj-test.true c.conj-item.is c.list-conj-items.ensures.normal)

pub few_with-pairs_of-requires : goal.few_with-pairs_of-requires
few_with-pairs_of-requires g t c =
    subst (AllByRecursion g.T.Theory.normal) (sym c.deref-in-loop-conj-2.ensures.value) (normal-at g.T.Theory.normal c.list-conj-items.result.now c.loop-conj.conj-index c.conj-item.result c.loop-conj-test.true c.conj-item.is c.list-conj-items.ensures.normal)

pub few_with-loop-conj-preserved : goal.few_with-loop-conj-preserved
few_with-loop-conj-preserved g t c =
    let h = g.T.Theory.holds in
    let cat = g.R.Relations.catalogue c.args.relations.now in
    let inside = conj_holds h c.args.window.now in
    let f = plan_form c.args.plan.now in
    let items = c.list-conj-items.result.now in
    let i = c.loop-conj.conj-index in
    let into : (p : Point) → inside p ≡ true → conj_holds h c.conj-item.result.items p ≡ true → conj_holds h c.deref-in-loop-conj.result.now p ≡ true
    = λ p w x. ap (λ xs. conj_holds h xs p) c.deref-in-loop-conj.ensures.value ∙ c.in_ok-inner.ensures.holds p w (ap (λ xs. conj_holds h xs p) c.deref.ensures.value ∙ x) in
    let pairs = c.in_ok-pairs_of.ensures in
    subst (IsFoundWith h cat inside f (conjs_of items)) (sym c.in_ok-append.ensures)
    (with_append h cat inside f (conjs_of items) c.loop-conj.joined c.in_ok-pairs_of.field-0 c.loop-conj.invariant
    (with_conj h cat inside g.T.Theory.mentions g.T.Theory.lines f items i c.conj-item.result (conj_holds h c.deref-in-loop-conj.result.now) c.in_ok-next.next pairs.0 c.in_ok-pairs_of.field-0 c.loop-conj-test.true c.conj-item.is into
    c.in_ok-next.ensures
    (subst (λ xs. IsMeet h g.T.Theory.mentions g.T.Theory.lines xs c.in_ok-next.next pairs.0) (ap (λ atoms. atoms ∷ []) c.deref-in-loop-conj-2.ensures.value) pairs.1)
    pairs.2))

pub few_united-loop-part-preserved : goal.few_united-loop-part-preserved
few_united-loop-part-preserved g t c =
    let h = g.T.Theory.holds in
    let cat = g.R.Relations.catalogue c.args.relations.now in
    let inside = conj_holds h c.args.window.now in
    let items = c.deref-part-items.result.now in
    let i = c.loop-part.part-index in (
      subst (IsFoundIn h cat inside (some_of (plan_forms items))) (sym c.in_ok-append.ensures)
          (found_append h cat inside (some_of (plan_forms items)) c.loop-part.list c.in_ok-few.field-0 c.loop-part.invariant.0 (found_part h cat inside items i c.part-item.result c.in_ok-few.field-0 c.loop-part-test.true c.part-item.is c.in_ok-few.ensures)),
      rest_atoms (IsScannable g.T.OfTuples.reads cat) items i c.loop-part-test.true c.loop-part.invariant.1,
    )
