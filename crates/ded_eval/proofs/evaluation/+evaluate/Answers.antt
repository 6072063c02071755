use Rattle.std.proofs.Common.{rules, arith, ◌≡◌, true, ◌++◌, ◌∷◌, [], ◌∙◌, sym, ap, subst, take, map, length, get_or, ◌<◌, ◌≤◌}
use Rattle.std.proofs.lemmas.List.{take_all}
use Rattle.std.proofs.lemmas.Result.{IfOk-weaker}
use Rattle.ded_model.specs.declared.plan.Plan.TheFolds.{fold-roll-Plan, fold_out-Plan}
use Rattle.ded_model.specs.declared.plan.Plan.TheViews.{the_lemmas}
use Rattle.ded_model.specs.Catalogue.{stored}
use Rattle.ded_model.specs.Logic.{atom, negation, every_of, some_of, minus, exists, none, logics, AllAtomsOf, SatEvery}
use Rattle.ded_model.specs.Cell.{conj_holds}
use Rattle.ded_model.specs.Point.{slot, Point, IsPoint, IsExtension}
use Rattle.ded_theory.proofs.Conjunctions.{conj_holds-append, conj_holds-extended}
use Rattle.std.proofs.lemmas.Bool.{and_from}
use Rattle.ded_eval.specs.Within.{all_rows_hold}
use Rattle.ded_model.specs.Coefs.{AreCoefs}
use Rattle.ded_model.specs.Lines.{any_clashes}
use Rattle.ded_model.specs.Measure.{stored_measures, plan_atom_lines, plan_atom_clash, plan_clashes}
use Rattle.ded_model.specs.PlanForm.{rows, plan_form, plan_forms, PlanAtomHolds}
use Rattle.ded_model.proofs.Rows.{or_right}
use Rattle.ded_algebra.specs.Evaluation.{IsEvaluable, IsScannable}
use Rattle.ded_genrel.specs.Lists.{AreNormal, conjs_hold, conjs_lines}
use Rattle.std.specs.List.{AllByRecursion}
use Rattle.ded_genrel.specs.Lists.{conjs_of}
use Rattle.ded_genrel.proofs.Items.{normal-at, conjs_to, conjs_done, all-append}
use Rattle.ded_eval.specs.Joining.{begun, IsJoinedWith}
use Rattle.ded_eval.proofs.Evaluated.{IsListFor, everywhere_for, distinct_for, no_conjunction, united_none, united_more, complement_for, implied_for}
use Rattle.ded_eval.proofs.InTurn.{in_turn, in_turn-length, place_inside, at_turn, first_hold, all_hold}
use Rattle.ded_eval.proofs.Joined.{IsJoined, joined_begun, joined_rows, joined_more, joined_ends, joined_all, met_with, first_with, probed_none, probed_more}
use Rattle.ded_eval.proofs.Left.{left_with, minus_of}
use Rattle.ded_eval.proofs.Parts.{part_atoms, part_clashes, part_mentions, part_lines, part_rows, parts_to, rest_atoms, two_items}
use Rattle.ded_eval.proofs.Projected.{AreInOrder, projection_for, projection_clash}
use Rattle.ded_eval.proofs.Scanned.{lists_lines}
use Rattle.ded_model.proofs.plan.Plan.TheLaws.{the_size}
use denote.Param.Weighed.{most, at_most}
use Rattle.ded_eval.proofs.evaluation.+evaluate.Goals as goal

pub evaluate_within-returns-in_ok-from-in-Minus-clause-is : goal.evaluate_within-returns-in_ok-from-in-Minus-clause-is
evaluate_within-returns-in_ok-from-in-Minus-clause-is g t c =
    let cat = g.R.Relations.catalogue c.args.relations.now in
    let e : plan_form c.args.plan.now ≡ minus (plan_form c.deref.result.now) (plan_form c.deref-in-Minus.result.now) = search (rules, the_lemmas, fold-roll-Plan, fold_out-Plan) in
    IfOk-weaker c.left_of.result _ _
    (λ r k. subst (λ f. IsListFor g.T.Theory.holds g.T.Theory.mentions g.T.Theory.lines (conj_holds g.T.Theory.holds c.args.window.now) cat f r) (sym e) (minus_of g.T.Theory.holds g.T.Theory.mentions g.T.Theory.lines cat (conj_holds g.T.Theory.holds c.args.window.now) (plan_form c.deref.result.now) (plan_form c.deref-in-Minus.result.now) c.in_ok-from-in-Minus.from r c.in_ok-from-in-Minus.ensures.is k))
    c.left_of.ensures.is

pub evaluate_within-returns-in_ok-rows-in-Rows-clause-is : goal.evaluate_within-returns-in_ok-rows-in-Rows-clause-is
evaluate_within-returns-in_ok-rows-in-Rows-clause-is g t c =
    let cat = g.R.Relations.catalogue c.args.relations.now in
    let e : plan_form c.args.plan.now ≡ atom (rows c.in-Rows.tuple) = search (rules, the_lemmas, fold-roll-Plan, fold_out-Plan) in
    subst (λ f. IsListFor g.T.Theory.holds g.T.Theory.mentions g.T.Theory.lines (conj_holds g.T.Theory.holds c.args.window.now) cat f c.in_ok-rows-in-Rows.field-0) (sym e) (everywhere_for g.T.Theory.holds g.T.Theory.mentions g.T.Theory.lines (conj_holds g.T.Theory.holds c.args.window.now) cat (atom (rows c.in-Rows.tuple)) c.in_ok-rows-in-Rows.field-0 (c.in_ok-rows-in-Rows.ensures cat))

pub evaluate_within-returns-in_ok-distinct-in-Project-clause-is : goal.evaluate_within-returns-in_ok-distinct-in-Project-clause-is
evaluate_within-returns-in_ok-distinct-in-Project-clause-is g t c =
    let cat = g.R.Relations.catalogue c.args.relations.now in
    let xs = c.in_ok-evaluate_within-in-Project.field-0 in
    let ys = c.in_ok-list-in-Project.list in
    let out = c.in_ok-distinct-in-Project.field-0 in
    let e : plan_form c.args.plan.now ≡ exists c.in-Project.slot.sort (slot c.in-Project.slot) (plan_form c.deref-in-Project.result.now) = search (rules, the_lemmas, fold-roll-Plan, fold_out-Plan) in
    let order : AreInOrder (conjs_lines g.T.Theory.lines xs)
    = lists_lines g.T.Theory.holds g.T.Theory.mentions g.T.Theory.lines g.T.Theory.normal (λ y. AreCoefs y.coefs) g.met.T.OfTuples.line_coefs xs (subst (AreNormal g.T.Theory.normal) c.project.view_is c.project.invariant) in
    let stays : (p q : Point) → IsPoint p → IsExtension c.in-Project.slot.sort p (slot c.in-Project.slot) q → conj_holds g.T.Theory.holds c.args.window.now p ≡ true → conj_holds g.T.Theory.holds c.deref-in-Project-2.result.now q ≡ true
    = λ p q i x w. ap (λ xs. conj_holds g.T.Theory.holds xs q) c.deref-in-Project-2.ensures.value ∙ sym (conj_holds-extended g.T.Theory.holds g.T.Theory.mentions g.met.T.Theory.respects c.in_ok-outside-in-Project.outside.items c.in-Project.slot p q i.positive c.in_ok-outside-in-Project.ensures.slot x) ∙ c.in_ok-outside-in-Project.ensures.weaker p w in
    subst (λ f. IsListFor g.T.Theory.holds g.T.Theory.mentions g.T.Theory.lines (conj_holds g.T.Theory.holds c.args.window.now) cat f out) (sym e)
    (distinct_for g.T.Theory.holds g.T.Theory.mentions g.T.Theory.lines (conj_holds g.T.Theory.holds c.args.window.now) cat (exists c.in-Project.slot.sort (slot c.in-Project.slot) (plan_form c.deref-in-Project.result.now)) ys out
    c.in_ok-distinct-in-Project.ensures.holds c.in_ok-distinct-in-Project.ensures.slots c.in_ok-distinct-in-Project.ensures.lines
    (projection_for g.T.Theory.holds g.T.Theory.mentions g.T.Theory.lines (conj_holds g.T.Theory.holds c.args.window.now) (conj_holds g.T.Theory.holds c.deref-in-Project-2.result.now) cat (plan_form c.deref-in-Project.result.now) c.in-Project.slot xs ys order stays c.in_ok-evaluate_within-in-Project.ensures.is c.in_ok-list-in-Project.ensures.is))

pub evaluate_within-returns-in_err-list-in-Project-clause-wide : goal.evaluate_within-returns-in_err-list-in-Project-clause-wide
evaluate_within-returns-in_err-list-in-Project-clause-wide g t c w =
    let M = stored_measures (g.R.Relations.catalogue c.args.relations.now) in
    let xs = c.in_ok-evaluate_within-in-Project.field-0 in
    let e : plan_form c.args.plan.now ≡ exists c.in-Project.slot.sort (slot c.in-Project.slot) (plan_form c.deref-in-Project.result.now) = search (rules, the_lemmas, fold-roll-Plan, fold_out-Plan) in
    let order : AreInOrder (conjs_lines g.T.Theory.lines xs)
    = lists_lines g.T.Theory.holds g.T.Theory.mentions g.T.Theory.lines g.T.Theory.normal (λ y. AreCoefs y.coefs) g.met.T.OfTuples.line_coefs xs (subst (AreNormal g.T.Theory.normal) c.project.view_is c.project.invariant) in
    ap (plan_clashes M) e ∙ or_right (plan_clashes M (plan_form c.deref-in-Project.result.now)) _
    (projection_clash g.T.Theory.holds g.T.Theory.mentions g.T.Theory.lines (conj_holds g.T.Theory.holds c.args.window.now) (conj_holds g.T.Theory.holds c.deref-in-Project-2.result.now) (g.R.Relations.catalogue c.args.relations.now) (plan_form c.deref-in-Project.result.now) c.in-Project.slot xs order c.in_ok-evaluate_within-in-Project.ensures.is
    (c.in_err-list-in-Project.ensures.wide (search rules)))

pub joined-loop-i-init : goal.joined-loop-i-init
joined-loop-i-init g t c = (
  joined_begun g.T.Theory.holds g.T.Theory.mentions g.T.Theory.lines (conj_holds g.T.Theory.holds c.args.window.now) (g.R.Relations.catalogue c.args.relations.now) (map plan_form c.args.parts.now.items) c.in_ok-rows.rows.items (begun c.in_ok-list.list)
      c.in_ok-rows.ensures.rows c.in_ok-list.ensures,
  c.in_ok-slots.ensures,
)

pub joined-rows_of_parts-requires : goal.joined-rows_of_parts-requires
joined-rows_of_parts-requires g t c = (g.R.Relations.catalogue c.args.relations.now, c.requires.parts)

pub joined-loop-i-preserved-then-is_rows : goal.joined-loop-i-preserved-then-is_rows
joined-loop-i-preserved-then-is_rows g t c =
    let cat = g.R.Relations.catalogue c.args.relations.now in
    let items = c.args.parts.now.items in
    let turned = in_turn c.in_ok-front.front items in
    let i = c.loop-i.i in
    let below : i < length items = omega (arith, c.args.parts.now.ok.0, c.len-i-end.ensures, c.loop-i-test.true) in
    let p = c.index-part.result.now in
    let inside : c.place_of.result < length items = subst (λ k. k < length items) (sym c.place_of.ensures.value) (place_inside (length items) c.in_ok-front.front i c.in_ok-front.ensures below) in
    let at : p ≡ get_or turned i p = at_turn c.in_ok-front.front i items p c.in_ok-front.ensures below (subst (λ k. p ≡ get_or items k p) c.place_of.ensures.value c.index-part.ensures) in
    let there : i < length turned = subst (λ k. i < k) (sym (in_turn-length c.in_ok-front.front items)) below in (
      subst (λ fs. IsJoined g.T.Theory.holds g.T.Theory.mentions g.T.Theory.lines (conj_holds g.T.Theory.holds c.args.window.now) cat (map plan_form items) fs (begun c.loop-i.list)) (sym (parts_to turned i p there at))
          (joined_rows g.T.Theory.holds g.T.Theory.mentions g.T.Theory.lines (conj_holds g.T.Theory.holds c.args.window.now) cat (map plan_form items) (map plan_form (take i turned)) (plan_form p) (begun c.loop-i.list)
          (sym c.is_rows.ensures ∙ c.if-is_rows.true) (λ q k. part_rows items c.place_of.result p q inside c.index-part.ensures k) c.loop-i.invariant.0),
      c.loop-i.invariant.1,
    )

pub joined-loop-i-preserved : goal.joined-loop-i-preserved
joined-loop-i-preserved g t c =
    let cat = g.R.Relations.catalogue c.args.relations.now in
    let items = c.args.parts.now.items in
    let turned = in_turn c.in_ok-front.front items in
    let i = c.loop-i.i in
    let below : i < length items = omega (arith, c.args.parts.now.ok.0, c.len-i-end.ensures, c.loop-i-test.true) in
    let p = c.index-part.result.now in
    let inside : c.place_of.result < length items = subst (λ k. k < length items) (sym c.place_of.ensures.value) (place_inside (length items) c.in_ok-front.front i c.in_ok-front.ensures below) in
    let at : p ≡ get_or turned i p = at_turn c.in_ok-front.front i items p c.in_ok-front.ensures below (subst (λ k. p ≡ get_or items k p) c.place_of.ensures.value c.index-part.ensures) in
    let there : i < length turned = subst (λ k. i < k) (sym (in_turn-length c.in_ok-front.front items)) below in
    let holds = g.T.Theory.holds in
    let rows : (q : Point) → all_rows_hold (map plan_form items) q ≡ true → conj_holds holds c.in_ok-rows.rows.items q ≡ true
    = λ q r. c.in_ok-rows.ensures.rows.holds q ∙ r in
    let within : (q : Point) → conj_holds holds c.args.window.now q ≡ true → all_rows_hold (map plan_form items) q ≡ true → conj_holds holds c.deref-in-loop-i-6.result.now q ≡ true
    = λ q w r. ap (λ xs. conj_holds holds xs q) (c.deref-in-loop-i-6.ensures.value ∙ c.in_ok-within.ensures ∙ ap (λ xs. c.args.window.now ++ xs) c.deref.ensures.value)
    ∙ conj_holds-append holds c.args.window.now c.in_ok-rows.rows.items q ∙ and_from _ _ w (rows q r) in (
      subst (λ fs. IsJoined g.T.Theory.holds g.T.Theory.mentions g.T.Theory.lines (conj_holds g.T.Theory.holds c.args.window.now) cat (map plan_form items) fs c.in_ok-joined_with.field-0) (sym (parts_to turned i p there at))
          (joined_more g.T.Theory.holds g.T.Theory.mentions g.T.Theory.lines (conj_holds g.T.Theory.holds c.args.window.now) cat (map plan_form items) (map plan_form (take i turned)) (plan_form p) (begun c.loop-i.list) c.in_ok-joined_with.field-0
          (conj_holds holds c.deref-in-loop-i-6.result.now) within
          (λ s u. part_mentions items c.place_of.result p (slot s) inside c.index-part.ensures u) (part_lines (stored_measures cat) items c.place_of.result p inside c.index-part.ensures)
          c.loop-i.invariant.0 c.in_ok-joined_with.ensures.is),
      c.in_ok-add_all.ensures,
    )

pub joined-returns-in_err-joined_with-clause-wide : goal.joined-returns-in_err-joined_with-clause-wide
joined-returns-in_err-joined_with-clause-wide g t c w =
    let M = stored_measures (g.R.Relations.catalogue c.args.relations.now) in
    let items = c.args.parts.now.items in
    let inside : c.place_of.result < length items = subst (λ k. k < length items) (sym c.place_of.ensures.value) (place_inside (length items) c.in_ok-front.front c.loop-i.i c.in_ok-front.ensures (omega (arith, c.args.parts.now.ok.0, c.len-i-end.ensures, c.loop-i-test.true))) in
    let clashes : plan_clashes M (plan_form c.index-part.result.now) ≡ true = c.in_err-joined_with.ensures.wide (search rules) in
    part_clashes (plan_atom_lines M) (plan_atom_clash M) items c.place_of.result c.index-part.result.now inside c.index-part.ensures clashes

pub joined-returns-then-leaves_nothing-clause-is : goal.joined-returns-then-leaves_nothing-clause-is
joined-returns-then-leaves_nothing-clause-is g t c =
    let cat = g.R.Relations.catalogue c.args.relations.now in
    let items = c.args.parts.now.items in
    let i = c.loop-i.i in
    subst (IsListFor g.T.Theory.holds g.T.Theory.mentions g.T.Theory.lines (conj_holds g.T.Theory.holds c.args.window.now) cat (every_of (plan_forms items))) (sym c.in_ok-whole.ensures)
    (joined_ends g.T.Theory.holds g.T.Theory.mentions g.T.Theory.lines (conj_holds g.T.Theory.holds c.args.window.now) cat (map plan_form items) (map plan_form (take i (in_turn c.in_ok-front.front items))) (begun c.loop-i.list)
    (c.leaves_nothing.ensures c.if-leaves_nothing.true) (λ p y. first_hold (PlanAtomHolds (stored cat)) p c.in_ok-front.front i items c.in_ok-front.ensures y) c.loop-i.invariant.0)

pub joined-returns-clause-is : goal.joined-returns-clause-is
joined-returns-clause-is g t c =
    let cat = g.R.Relations.catalogue c.args.relations.now in
    let items = c.args.parts.now.items in
    let turned = in_turn c.in_ok-front.front items in
    let n = c.in_ok-front.front in
    let over : length turned ≤ c.loop-i.i = omega (arith, c.args.parts.now.ok.0, in_turn-length n items, c.len-i-end.ensures, c.loop-i-test.false) in
    subst (IsListFor g.T.Theory.holds g.T.Theory.mentions g.T.Theory.lines (conj_holds g.T.Theory.holds c.args.window.now) cat (every_of (plan_forms items))) (sym c.in_ok-whole-2.ensures)
    (joined_all g.T.Theory.holds g.T.Theory.mentions g.T.Theory.lines (conj_holds g.T.Theory.holds c.args.window.now) cat (map plan_form items) (map plan_form turned) (begun c.loop-i.list)
    (λ p. (λ y. subst (λ ps. SatEvery (PlanAtomHolds (stored cat)) (logics (map plan_form ps)) p) (take_all c.loop-i.i turned over) (first_hold (PlanAtomHolds (stored cat)) p n c.loop-i.i items c.in_ok-front.ensures y), λ y. all_hold (PlanAtomHolds (stored cat)) p n items c.in_ok-front.ensures y))
    (subst (λ ps. IsJoined g.T.Theory.holds g.T.Theory.mentions g.T.Theory.lines (conj_holds g.T.Theory.holds c.args.window.now) cat (map plan_form items) (map plan_form ps) (begun c.loop-i.list)) (take_all c.loop-i.i turned over) c.loop-i.invariant.0))

pub joined-joined_with-requires : goal.joined-joined_with-requires
joined-joined_with-requires g t c κs within =
    let items = c.args.parts.now.items in
    let part = c.index-part.result.now in
    let below : c.place_of.result < length items = omega (arith, c.args.parts.now.ok.0, c.len.ensures, c.place_of.ensures.inside) in
    let scannable : IsEvaluable g.T.OfTuples.reads (g.R.Relations.catalogue c.args.relations.now) (plan_form part)
    = part_atoms (IsScannable g.T.OfTuples.reads (g.R.Relations.catalogue c.args.relations.now)) items c.place_of.result part below c.index-part.ensures c.requires.parts in
    let less : the_size part ≤ most the_size items = subst (λ q. the_size q ≤ most the_size items) (sym c.index-part.ensures) (at_most the_size items c.place_of.result part below) in
    let normal : AllByRecursion g.T.Theory.normal c.deref-in-loop-i-6.result.now
    = subst (AllByRecursion g.T.Theory.normal) (sym (c.deref-in-loop-i-6.ensures.value ∙ c.in_ok-within.ensures ∙ ap (λ xs. c.args.window.now ++ xs) c.deref.ensures.value))
    (all-append g.T.Theory.normal c.args.window.now c.in_ok-rows.rows.items c.requires.window c.in_ok-rows.ensures.normal) in
    (omega (arith, c.decreases, less), (search rules, (search rules, (search rules, (scannable, record { within = normal; rational = search rules; across = search rules; weaker = search rules })))))

pub met_with-returns-in-Some-clause-is : goal.met_with-returns-in-Some-clause-is
met_with-returns-in-Some-clause-is g t c =
    subst (λ xs. IsJoinedWith g.T.Theory.holds g.T.Theory.mentions g.T.Theory.lines (g.R.Relations.catalogue c.args.relations.now) (conj_holds g.T.Theory.holds c.args.step.now.within.now) (plan_form c.args.part.now) xs c.in_ok-join_inside-in-Some.field-0) (sym (ap begun c.in-Some.is))
    (met_with g.T.Theory.holds g.T.Theory.mentions g.T.Theory.lines (g.R.Relations.catalogue c.args.relations.now) (conj_holds g.T.Theory.holds c.args.step.now.within.now) (plan_form c.args.part.now) c.in-Some.list c.in_ok-next.next c.in_ok-join_inside-in-Some.field-0 (conj_holds g.T.Theory.holds c.deref.result.now) (conj_holds g.T.Theory.holds c.args.step.now.across.now)
    (λ p w y. ap (λ xs. conj_holds g.T.Theory.holds xs p) c.deref.ensures.value ∙ c.in_ok-inner.ensures.holds p w (ap (λ o. conjs_hold g.T.Theory.holds (begun o) p) c.in-Some.is ∙ y))
    c.requires.step.weaker c.in_ok-next.ensures.is c.in_ok-join_inside-in-Some.ensures)

pub met_with-returns-clause-is : goal.met_with-returns-clause-is
met_with-returns-clause-is g t c =
    subst (λ xs. IsJoinedWith g.T.Theory.holds g.T.Theory.mentions g.T.Theory.lines (g.R.Relations.catalogue c.args.relations.now) (conj_holds g.T.Theory.holds c.args.step.now.within.now) (plan_form c.args.part.now) xs c.in_ok-next.next) (sym (ap begun c.in-None.is))
    (first_with g.T.Theory.holds g.T.Theory.mentions g.T.Theory.lines (g.R.Relations.catalogue c.args.relations.now) (conj_holds g.T.Theory.holds c.args.step.now.within.now) (plan_form c.args.part.now) c.in_ok-next.next (conj_holds g.T.Theory.holds c.deref.result.now)
    (λ p w. ap (λ xs. conj_holds g.T.Theory.holds xs p) c.deref.ensures.value ∙ c.in_ok-inner.ensures.holds p w (ap (λ o. conjs_hold g.T.Theory.holds (begun o) p) c.in-None.is)) c.in_ok-next.ensures.is)

pub probed-alone-requires : goal.probed-alone-requires
probed-alone-requires g t c =
    subst (AllByRecursion g.T.Theory.normal) (sym c.deref.ensures.value) (normal-at g.T.Theory.normal c.list-conj-items.result.now c.loop-conj.conj-index c.conj-item.result c.loop-conj-test.true c.conj-item.is c.list-conj-items.ensures.normal)

pub probed-loop-conj-init : goal.probed-loop-conj-init
probed-loop-conj-init g t c = subst (IsJoinedWith g.T.Theory.holds g.T.Theory.mentions g.T.Theory.lines (g.R.Relations.catalogue c.args.relations.now) (conj_holds g.T.Theory.holds c.args.step.now.within.now) (plan_form c.args.part.now) []) (sym c.new-joined.ensures) (probed_none g.T.Theory.holds g.T.Theory.mentions g.T.Theory.lines (g.R.Relations.catalogue c.args.relations.now) (conj_holds g.T.Theory.holds c.args.step.now.within.now) (plan_form c.args.part.now))

pub probed-loop-conj-preserved : goal.probed-loop-conj-preserved
probed-loop-conj-preserved g t c =
    let items = c.list-conj-items.result.now in
    let i = c.loop-conj.conj-index in
    subst (λ xs. IsJoinedWith g.T.Theory.holds g.T.Theory.mentions g.T.Theory.lines (g.R.Relations.catalogue c.args.relations.now) (conj_holds g.T.Theory.holds c.args.step.now.within.now) (plan_form c.args.part.now) xs c.append.new.self) (sym (conjs_to items i c.conj-item.result c.loop-conj-test.true c.conj-item.is))
    (subst (IsJoinedWith g.T.Theory.holds g.T.Theory.mentions g.T.Theory.lines (g.R.Relations.catalogue c.args.relations.now) (conj_holds g.T.Theory.holds c.args.step.now.within.now) (plan_form c.args.part.now) (conjs_of (take i items) ++ c.conj-item.result.items ∷ [])) (sym c.in_ok-append.ensures)
    (probed_more g.T.Theory.holds g.T.Theory.mentions g.T.Theory.lines (g.R.Relations.catalogue c.args.relations.now) (conj_holds g.T.Theory.holds c.args.step.now.within.now) (plan_form c.args.part.now) (conjs_of (take i items)) (c.conj-item.result.items ∷ []) c.loop-conj.joined c.in_ok-more.more c.loop-conj.invariant
    (subst (λ xs. IsJoinedWith g.T.Theory.holds g.T.Theory.mentions g.T.Theory.lines (g.R.Relations.catalogue c.args.relations.now) (conj_holds g.T.Theory.holds c.args.step.now.within.now) (plan_form c.args.part.now) xs c.in_ok-more.more) (c.in_ok-alone.ensures ∙ ap (λ atoms. atoms ∷ []) c.deref.ensures.value) c.in_ok-more.ensures.is)))

pub probed-returns-clause-is : goal.probed-returns-clause-is
probed-returns-clause-is g t c =
    subst (λ xs. IsJoinedWith g.T.Theory.holds g.T.Theory.mentions g.T.Theory.lines (g.R.Relations.catalogue c.args.relations.now) (conj_holds g.T.Theory.holds c.args.step.now.within.now) (plan_form c.args.part.now) xs c.loop-conj.joined) (conjs_done c.list-conj-items.result.now c.loop-conj.conj-index c.loop-conj-test.false ∙ c.list-conj-items.ensures.list) c.loop-conj.invariant

pub united-loop-part-init : goal.united-loop-part-init
united-loop-part-init g t c = (
  subst (IsListFor g.T.Theory.holds g.T.Theory.mentions g.T.Theory.lines (conj_holds g.T.Theory.holds c.args.window.now) (g.R.Relations.catalogue c.args.relations.now) (some_of none)) (sym c.new-list.ensures) (united_none g.T.Theory.holds g.T.Theory.mentions g.T.Theory.lines (conj_holds g.T.Theory.holds c.args.window.now) (g.R.Relations.catalogue c.args.relations.now)),
  subst (λ ps. AllAtomsOf (IsScannable g.T.OfTuples.reads (g.R.Relations.catalogue c.args.relations.now)) (plan_forms ps)) (sym c.deref-part-items.ensures.value) c.requires.parts,
)

pub united-returns-in_err-evaluate_within-clause-wide : goal.united-returns-in_err-evaluate_within-clause-wide
united-returns-in_err-evaluate_within-clause-wide g t c w =
    let M = stored_measures (g.R.Relations.catalogue c.args.relations.now) in
    let clashes : plan_clashes M (plan_form c.part-item.result) ≡ true = c.in_err-evaluate_within.ensures.wide (search rules) in
    ap (λ ps. any_clashes (plan_atom_lines M) (plan_atom_clash M) (plan_forms ps)) (sym c.deref-part-items.ensures.value)
    ∙ part_clashes (plan_atom_lines M) (plan_atom_clash M) c.deref-part-items.result.now c.loop-part.part-index c.part-item.result c.loop-part-test.true c.part-item.is clashes

pub united-loop-part-preserved : goal.united-loop-part-preserved
united-loop-part-preserved g t c =
    let cat = g.R.Relations.catalogue c.args.relations.now in
    let items = c.deref-part-items.result.now in
    let i = c.loop-part.part-index in (
      subst (λ fs. IsListFor g.T.Theory.holds g.T.Theory.mentions g.T.Theory.lines (conj_holds g.T.Theory.holds c.args.window.now) cat (some_of (logics fs)) c.append.new.self) (sym (parts_to items i c.part-item.result c.loop-part-test.true c.part-item.is))
          (subst (IsListFor g.T.Theory.holds g.T.Theory.mentions g.T.Theory.lines (conj_holds g.T.Theory.holds c.args.window.now) cat (some_of (logics (map plan_form (take i items) ++ plan_form c.part-item.result ∷ [])))) (sym c.in_ok-append.ensures)
          (united_more g.T.Theory.holds g.T.Theory.mentions g.T.Theory.lines (conj_holds g.T.Theory.holds c.args.window.now) cat (map plan_form (take i items)) (plan_form c.part-item.result) c.loop-part.list c.in_ok-evaluate_within.field-0 c.loop-part.invariant.0 c.in_ok-evaluate_within.ensures.is)),
      rest_atoms (IsScannable g.T.OfTuples.reads cat) items i c.loop-part-test.true c.loop-part.invariant.1,
    )

pub united-returns-clause-is : goal.united-returns-clause-is
united-returns-clause-is g t c =
    let cat = g.R.Relations.catalogue c.args.relations.now in
    let items = c.deref-part-items.result.now in
    let all : IsListFor g.T.Theory.holds g.T.Theory.mentions g.T.Theory.lines (conj_holds g.T.Theory.holds c.args.window.now) cat (some_of (plan_forms c.args.parts.now.items)) c.loop-part.list
    = subst (λ ps. IsListFor g.T.Theory.holds g.T.Theory.mentions g.T.Theory.lines (conj_holds g.T.Theory.holds c.args.window.now) cat (some_of (plan_forms ps)) c.loop-part.list) (take_all c.loop-part.part-index items c.loop-part-test.false ∙ c.deref-part-items.ensures.value) c.loop-part.invariant.0 in
    distinct_for g.T.Theory.holds g.T.Theory.mentions g.T.Theory.lines (conj_holds g.T.Theory.holds c.args.window.now) cat (some_of (plan_forms c.args.parts.now.items)) c.loop-part.list c.in_ok-distinct.field-0
    c.in_ok-distinct.ensures.holds c.in_ok-distinct.ensures.slots c.in_ok-distinct.ensures.lines all

pub complemented-returns-clause-is : goal.complemented-returns-clause-is
complemented-returns-clause-is g t c =
    complement_for g.T.Theory.holds g.T.Theory.mentions g.T.Theory.lines (conj_holds g.T.Theory.holds c.args.window.now) (g.R.Relations.catalogue c.args.relations.now) (plan_form c.args.plan.now) c.in_ok-list.list c.in_ok-complement.field-0 c.in_ok-list.ensures.is c.in_ok-complement.ensures.is

pub left_of-alone-requires : goal.left_of-alone-requires
left_of-alone-requires g t c =
    subst (AllByRecursion g.T.Theory.normal) (sym c.deref.ensures.value) (normal-at g.T.Theory.normal c.list-conj-items.result.now c.loop-conj.conj-index c.conj-item.result c.loop-conj-test.true c.conj-item.is c.list-conj-items.ensures.normal)

pub left_of-loop-conj-init : goal.left_of-loop-conj-init
left_of-loop-conj-init g t c = subst (IsJoinedWith g.T.Theory.holds g.T.Theory.mentions g.T.Theory.lines (g.R.Relations.catalogue c.args.relations.now) (conj_holds g.T.Theory.holds c.args.window.now) (negation (plan_form c.args.taken.now)) []) (sym c.new-left.ensures) (probed_none g.T.Theory.holds g.T.Theory.mentions g.T.Theory.lines (g.R.Relations.catalogue c.args.relations.now) (conj_holds g.T.Theory.holds c.args.window.now) (negation (plan_form c.args.taken.now)))

pub left_of-loop-conj-preserved : goal.left_of-loop-conj-preserved
left_of-loop-conj-preserved g t c =
    let items = c.list-conj-items.result.now in
    let i = c.loop-conj.conj-index in
    subst (λ xs. IsJoinedWith g.T.Theory.holds g.T.Theory.mentions g.T.Theory.lines (g.R.Relations.catalogue c.args.relations.now) (conj_holds g.T.Theory.holds c.args.window.now) (negation (plan_form c.args.taken.now)) xs c.append.new.self) (sym (conjs_to items i c.conj-item.result c.loop-conj-test.true c.conj-item.is))
    (subst (IsJoinedWith g.T.Theory.holds g.T.Theory.mentions g.T.Theory.lines (g.R.Relations.catalogue c.args.relations.now) (conj_holds g.T.Theory.holds c.args.window.now) (negation (plan_form c.args.taken.now)) (conjs_of (take i items) ++ c.conj-item.result.items ∷ [])) (sym c.in_ok-append.ensures)
    (probed_more g.T.Theory.holds g.T.Theory.mentions g.T.Theory.lines (g.R.Relations.catalogue c.args.relations.now) (conj_holds g.T.Theory.holds c.args.window.now) (negation (plan_form c.args.taken.now)) (conjs_of (take i items)) (c.conj-item.result.items ∷ []) c.loop-conj.left c.in_ok-left_of_whole.field-0 c.loop-conj.invariant
    (subst (λ xs. IsJoinedWith g.T.Theory.holds g.T.Theory.mentions g.T.Theory.lines (g.R.Relations.catalogue c.args.relations.now) (conj_holds g.T.Theory.holds c.args.window.now) (negation (plan_form c.args.taken.now)) xs c.in_ok-left_of_whole.field-0) (c.in_ok-one.ensures ∙ ap (λ atoms. atoms ∷ []) c.deref.ensures.value) c.in_ok-left_of_whole.ensures.is)))

pub left_of-returns-clause-is : goal.left_of-returns-clause-is
left_of-returns-clause-is g t c =
    subst (λ xs. IsJoinedWith g.T.Theory.holds g.T.Theory.mentions g.T.Theory.lines (g.R.Relations.catalogue c.args.relations.now) (conj_holds g.T.Theory.holds c.args.window.now) (negation (plan_form c.args.taken.now)) xs c.loop-conj.left) (conjs_done c.list-conj-items.result.now c.loop-conj.conj-index c.loop-conj-test.false ∙ c.list-conj-items.ensures.list) c.loop-conj.invariant

pub left_of_whole-returns-clause-is : goal.left_of_whole-returns-clause-is
left_of_whole-returns-clause-is g t c =
    left_with g.T.Theory.holds g.T.Theory.mentions g.T.Theory.lines (g.R.Relations.catalogue c.args.relations.now) (conj_holds g.T.Theory.holds c.args.window.now) (plan_form c.args.taken.now) c.args.list.now c.in_ok-taken.taken c.in_ok-minus.field-0 (conj_holds g.T.Theory.holds c.deref.result.now)
    (λ p w y. ap (λ xs. conj_holds g.T.Theory.holds xs p) c.deref.ensures.value ∙ c.in_ok-inner.ensures.holds p w y) c.in_ok-taken.ensures.is c.in_ok-minus.ensures.is

pub complemented-returns-in-Not-clause-is : goal.complemented-returns-in-Not-clause-is
complemented-returns-in-Not-clause-is g t c =
    let cat = g.R.Relations.catalogue c.args.relations.now in
    let f = plan_form c.deref.result.now in
    let b = c.other-item.result in
    let first : plan_form c.first-item.result ≡ negation f = search (rules, the_lemmas, fold-roll-Plan, fold_out-Plan) in
    let union : plan_form c.args.plan.now ≡ some_of (plan_forms c.in-Union.parts.items) = search (rules, the_lemmas, fold-roll-Plan, fold_out-Plan) in
    let both : c.as_slice.result.now ≡ c.first-item.result ∷ b ∷ [] =
    two_items c.as_slice.result.now c.first-item.result b (omega (arith, c.in-len2.len_at_least)) (omega (arith, c.in-len2.len_below)) c.first-item.is c.other-item.is in
    let e : plan_form c.args.plan.now ≡ some_of (logics (negation f ∷ plan_form b ∷ [])) =
    union ∙ ap (λ ps. some_of (plan_forms ps)) (sym c.as_slice.ensures.value ∙ both) ∙ ap (λ k. some_of (logics (k ∷ plan_form b ∷ []))) first in
    IfOk-weaker c.left_of.result _ _
    (λ r k. subst (λ n. IsListFor g.T.Theory.holds g.T.Theory.mentions g.T.Theory.lines (conj_holds g.T.Theory.holds c.args.window.now) cat (negation n) r) (sym e)
    (implied_for g.T.Theory.holds g.T.Theory.mentions g.T.Theory.lines (conj_holds g.T.Theory.holds c.args.window.now) cat f (plan_form b) r (minus_of g.T.Theory.holds g.T.Theory.mentions g.T.Theory.lines cat (conj_holds g.T.Theory.holds c.args.window.now) f (plan_form b) c.in_ok-from.from r c.in_ok-from.ensures.is k)))
    c.left_of.ensures.is
