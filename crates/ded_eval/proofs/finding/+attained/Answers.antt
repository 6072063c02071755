use Rattle.std.proofs.Common.{◌≡◌, true, false, [], ◌∷◌, ◌++◌, ◌∙◌, sym, subst, rules, take, map}
use Rattle.std.proofs.lemmas.List.{take_all}
use Rattle.std.proofs.lemmas.Result.{IfOk-weaker}
use Rattle.ded_model.specs.declared.plan.Plan.TheFolds.{fold-roll-Plan, fold_out-Plan}
use Rattle.ded_model.specs.declared.plan.Plan.TheViews.{the_lemmas}
use Rattle.ded_model.specs.Logic.{atom, exists, every_of}
use Rattle.ded_model.specs.PlanForm.{scan, plan_form, plan_forms}
use Rattle.ded_model.specs.Point.{slot}
use Rattle.ded_algebra.specs.Evaluation.{IsScannable}
use Rattle.ded_model.specs.Cell.{conj_holds}
use Rattle.ded_model.specs.Point.{Point}
use Rattle.ded_eval.specs.Finding.{AreAlike, IsAttained, IsRefuted, IsPlanVerdict}
use Rattle.ded_eval.specs.Within.{all_rows_hold}
use Rattle.ded_eval.proofs.Attained.{alike_slots, attained_project, IsJoinedSo, joined_rows, joined_part, joined_all}
use Rattle.ded_eval.proofs.Refuted.{refuted_project, refuted_part}
use Rattle.ded_eval.proofs.Parts.{part_rows, parts_to, rest_atoms}
use Rattle.ded_theory.specs.declared.answers.Verdict.TheVariants.{Inhabited}
use Rattle.ded_eval.proofs.finding.+attained.Goals.{join_attained-then-found-2, join_attained-else-found-2}
use Rattle.ded_eval.proofs.finding.+attained.Goals as goal

pub attained-returns-in-Join : goal.attained-returns-in-Join
attained-returns-in-Join g t c =
    let cat = g.R.Relations.catalogue c.args.relations.now in
    let e : plan_form c.args.plan.now ≡ every_of (plan_forms c.in-Join.parts.items) = search (rules, the_lemmas, fold-roll-Plan, fold_out-Plan) in
    IfOk-weaker c.join_attained.result _ _ (λ v k. subst (λ f. IsPlanVerdict g.T.Theory.holds c.args.atoms.now cat c.args.slots.now f v) (sym e) k) c.join_attained.ensures

pub attained-returns-in-Scan : goal.attained-returns-in-Scan
attained-returns-in-Scan g t c =
    let cat = g.R.Relations.catalogue c.args.relations.now in
    let e : plan_form c.args.plan.now ≡ atom (scan c.in-Scan.name c.in-Scan.columns) = search (rules, the_lemmas, fold-roll-Plan, fold_out-Plan) in
    IfOk-weaker c.scan_attained.result _ _ (λ v k. subst (λ f. IsPlanVerdict g.T.Theory.holds c.args.atoms.now cat c.args.slots.now f v) (sym e) k) c.scan_attained.ensures

pub attained-attained-requires : goal.attained-attained-requires
attained-attained-requires g t c =
    let slots : c.deref-in-Project.result.now ≡ c.args.slots.now ++ c.in-Project.slot ∷ [] = search rules in
    let alike : AreAlike g.T.Theory.holds c.deref-in-Project.result.now c.args.atoms.now
    = subst (λ ss. AreAlike g.T.Theory.holds ss c.args.atoms.now) (sym slots) (alike_slots g.T.Theory.holds c.args.slots.now c.in-Project.slot c.args.atoms.now c.requires.alike) in
    search (rules, the_lemmas, fold-roll-Plan, fold_out-Plan, alike)

pub attained-returns-in-Empty-2 : goal.attained-returns-in-Empty-2
attained-returns-in-Empty-2 g t c =
    let cat = g.R.Relations.catalogue c.args.relations.now in
    let h = g.T.Theory.holds in
    let atoms = c.args.atoms.now in
    let f = plan_form c.deref.result.now in
    let e : plan_form c.args.plan.now ≡ exists c.in-Project.slot.sort (slot c.in-Project.slot) f = search (rules, the_lemmas, fold-roll-Plan, fold_out-Plan) in
    subst (IsRefuted h atoms cat) (sym e)
    (refuted_project h atoms cat c.args.slots.now c.in-Project.slot f c.requires.alike (sym c.stands_in.ensures ∙ c.if-stands_in.false)
    (subst (IsPlanVerdict h atoms cat c.deref-in-Project.result.now f) c.in-Empty-2.is c.in_ok-attained-in-Project.ensures))

pub attained-returns-in-Inhabited : goal.attained-returns-in-Inhabited
attained-returns-in-Inhabited g t c =
    let cat = g.R.Relations.catalogue c.args.relations.now in
    let h = g.T.Theory.holds in
    let atoms = c.args.atoms.now in
    let f = plan_form c.deref.result.now in
    let e : plan_form c.args.plan.now ≡ exists c.in-Project.slot.sort (slot c.in-Project.slot) f = search (rules, the_lemmas, fold-roll-Plan, fold_out-Plan) in
    let slots : c.deref-in-Project.result.now ≡ c.args.slots.now ++ c.in-Project.slot ∷ [] = search rules in
    let inside : IsAttained h atoms cat c.deref-in-Project.result.now f = subst (IsPlanVerdict h atoms cat c.deref-in-Project.result.now f) c.in-Inhabited.is c.in_ok-attained-in-Project.ensures in
    subst (IsAttained h atoms cat c.args.slots.now) (sym e) (attained_project h atoms cat c.args.slots.now c.in-Project.slot f (subst (λ ss. IsAttained h atoms cat ss f) slots inside))

pub join_attained-loop-part-preserved-then-is_rows : goal.join_attained-loop-part-preserved-then-is_rows
join_attained-loop-part-preserved-then-is_rows g t c =
    let h = g.T.Theory.holds in
    let cat = g.R.Relations.catalogue c.args.relations.now in
    let items = c.deref-part-items.result.now in
    let i = c.loop-part.part-index in (
      subst (λ fs. IsJoinedSo h c.in_ok-inner.inner.items cat c.args.slots.now (map plan_form items) c.loop-part.found fs) (sym (parts_to items i c.part-item.result c.loop-part-test.true c.part-item.is))
          (joined_rows h c.in_ok-inner.inner.items cat c.args.slots.now (map plan_form items) c.loop-part.found (map plan_form (take i items)) (plan_form c.part-item.result) (sym c.is_rows.ensures ∙ c.if-is_rows.true) (λ p k. part_rows items i c.part-item.result p c.loop-part-test.true c.part-item.is k) c.loop-part.invariant.0),
      rest_atoms (IsScannable g.T.OfTuples.reads cat) items i c.loop-part-test.true c.loop-part.invariant.1,
    )

pub join_attained-loop-part-preserved : goal.join_attained-loop-part-preserved
join_attained-loop-part-preserved g t c =
    let h = g.T.Theory.holds in
    let cat = g.R.Relations.catalogue c.args.relations.now in
    let inner = c.in_ok-inner.inner.items in
    let ss = c.args.slots.now in
    let items = c.deref-part-items.result.now in
    let i = c.loop-part.part-index in
    let before : IsJoinedSo h inner cat ss (map plan_form items) false (map plan_form (take i items))
    = subst (λ b. IsJoinedSo h inner cat ss (map plan_form items) b (map plan_form (take i items))) c.if-found.false c.loop-part.invariant.0 in
    let attained : IsAttained h inner cat ss (plan_form c.part-item.result)
    = subst (λ atoms. IsAttained h atoms cat ss (plan_form c.part-item.result)) c.deref-in-loop-part.ensures.value
    (subst (IsPlanVerdict h c.deref-in-loop-part.result.now cat ss (plan_form c.part-item.result)) (c.is_inhabited.ensures c.if-not-is_inhabited.false) c.in_ok-verdict.ensures) in (
      subst (λ fs. IsJoinedSo h inner cat ss (map plan_form items) true fs) (sym (parts_to items i c.part-item.result c.loop-part-test.true c.part-item.is))
          (joined_part h inner cat ss (map plan_form items) (map plan_form (take i items)) (plan_form c.part-item.result) before attained),
      rest_atoms (IsScannable g.T.OfTuples.reads cat) items i c.loop-part-test.true c.loop-part.invariant.1,
    )

pub join_attained-returns-then-is_empty : goal.join_attained-returns-then-is_empty
join_attained-returns-then-is_empty g t c =
    let h = g.T.Theory.holds in
    let cat = g.R.Relations.catalogue c.args.relations.now in
    let ss = c.args.slots.now in
    let atoms = c.args.atoms.now in
    let own = c.in_ok-own.own.items in
    let inner = c.in_ok-inner.inner.items in
    let items = c.deref-part-items.result.now in
    let parts : items ≡ c.args.parts.now.items = search rules in
    let both : inner ≡ atoms ++ own = search rules in
    let rows : (p : Point) → conj_holds h own p ≡ all_rows_hold (map plan_form items) p = subst (λ ps. (p : Point) → conj_holds h own p ≡ all_rows_hold (map plan_form ps) p) (sym parts) c.in_ok-own.ensures.rows.holds in
    let refuted : IsRefuted h inner cat (plan_form c.part-item.result)
    = subst (λ xs. IsRefuted h xs cat (plan_form c.part-item.result)) c.deref-in-loop-part.ensures.value
    (subst (IsPlanVerdict h c.deref-in-loop-part.result.now cat ss (plan_form c.part-item.result)) (c.is_empty.ensures c.if-is_empty.true) c.in_ok-verdict.ensures) in
    subst (λ ps. IsRefuted h atoms cat (every_of (plan_forms ps))) parts
    (refuted_part h atoms cat own inner items c.loop-part.part-index c.part-item.result c.loop-part-test.true c.part-item.is both rows refuted)

pub join_attained-returns : goal.join_attained-returns
join_attained-returns g t c =
    let h = g.T.Theory.holds in
    let cat = g.R.Relations.catalogue c.args.relations.now in
    let ss = c.args.slots.now in
    let own = c.in_ok-own.own.items in
    let inner = c.in_ok-inner.inner.items in
    let items = c.deref-part-items.result.now in
    let all = map plan_form items in
    let i = c.loop-part.part-index in
    let parts : items ≡ c.args.parts.now.items = search rules in
    let both : inner ≡ c.args.atoms.now ++ own = search rules in
    let alike : AreAlike h ss own = subst (AreAlike h ss) c.deref.ensures.value (c.are_over.ensures c.if-not-are_over.false) in
    let whole : take i items ≡ items = take_all i items c.loop-part-test.false in
    let rows : (p : Point) → conj_holds h own p ≡ all_rows_hold all p = subst (λ ps. (p : Point) → conj_holds h own p ≡ all_rows_hold (map plan_form ps) p) (sym parts) c.in_ok-own.ensures.rows.holds in
    let joined : c.loop-part.found ≡ true → IsPlanVerdict h c.args.atoms.now cat ss (every_of (plan_forms c.args.parts.now.items)) Inhabited
    = λ e. subst (λ ps. IsAttained h c.args.atoms.now cat ss (every_of (plan_forms ps))) parts
    (joined_all h c.args.atoms.now own inner cat ss all both alike rows
    (subst (λ ps. IsJoinedSo h inner cat ss all true (map plan_form ps)) whole (subst (λ b. IsJoinedSo h inner cat ss all b (map plan_form (take i items))) e c.loop-part.invariant.0))) in
    elim c.if-found-2.branch [
      | join_attained-then-found-2 w ↦ subst (IsPlanVerdict h c.args.atoms.now cat ss (every_of (plan_forms c.args.parts.now.items))) (sym w.result-is) (joined w.if-found-2.true)
      | join_attained-else-found-2 w ↦ subst (IsPlanVerdict h c.args.atoms.now cat ss (every_of (plan_forms c.args.parts.now.items))) (sym w.result-is) tt
    ]
