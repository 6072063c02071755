use Rattle.std.proofs.Common.{rules, ◌≡◌, ◌≤◌, ◌<◌, ◌+◌, ◌-◌, ◌*◌, ◌∙◌, take, true, false, is_some, None, Err, List, ℕ, refl, sym, ap, subst}
use Rattle.std.specs.Prelude.{if◌then◌else◌}
use Rattle.std.specs.List.{AllByRecursion, list_any}
use Rattle.std.specs.Str.{bytes_eq}
use Rattle.std.proofs.lemmas.List.{take_all}
use Rattle.std.proofs.lemmas.Result.{IfOk-weaker, on_ok_weaker, err_from_is_err_and}
use Rattle.ded_num.proofs.Tests.{all-at}
use Rattle.ded_model.specs.declared.memory.Refused.TheVariants.{Wide}
use Rattle.ded_model.specs.Entries.{known}
use Rattle.ded_model.specs.Made.{base, is_made}
use Rattle.ded_model.specs.Goal.{goal_form}
use Rattle.ded_model.specs.Known.{level_with}
use Rattle.ded_model.specs.PlanForm.{plan_form}
use Rattle.ded_model.specs.Row.{tuple_holds, tuples_hold, tuples_mention}
use Rattle.ded_model.specs.Uses.{plan_uses}
use Rattle.ded_catalog.specs.Snapshots.{snapshot_of}
use Rattle.ded_algebra.specs.Given.{has_name}
use Rattle.ded_plan.specs.Scans.{IsReadWithin}
use Rattle.ded_query.specs.Asking.{IsAskedView, IsClosedPlan}
use Rattle.ded_query.specs.Gathering.{IsFront}
use Rattle.ded_query.specs.Over.{over_relations}
use Rattle.ded_query.specs.Tried.{IsBelowTried, IsGatheredBy}
use Rattle.ded_query.specs.Windows.{IsReadable, IsGivenNear}
use Rattle.ded_query.proofs.BelowTried.{below_plan, below_names, below_scans, below_asked, below_closed, below_near, below_begun, below_name, below_scan, tried_clash}
use Rattle.ded_query.proofs.Entries.{view_goal, view_posed, view_low, view_level, view_known, view_clash, near_as, relation_there}
use Rattle.ded_query.proofs.Evaluable.{evaluable}
use Rattle.ded_query.proofs.GivenNames.{shaped}
use Rattle.ded_query.proofs.Evaluations.{evaluated_of, evaluated_inside, evaluated_everywhere, evaluated_part, inside_part, clash_of_goal}
use Rattle.ded_query.proofs.Gathered.{front_none, front_more, front_kept, named_more, posed_scans, posed_known, posed_levels, posed_clash}
use Rattle.ded_query.proofs.MadeNames.{headed_known, is_other, inner_known, inner_plain, inner_base, inner_clash, lower}
use Rattle.ded_query.proofs.NearViews.{IsGatheredTo, posed_readable, scans_clash, right_shapes, near_agrees, near_evaluable, holds_without, whole_next, near_next}
use Rattle.ded_query.proofs.Posed.{posed_normal}
use Rattle.ded_query.proofs.Standing.{over_right, given_there, stored_there}
use Rattle.ded_query.proofs.Tries.{tries_none, tries_more, tries_begun, tries_it, by_none, by_more, by_given, by_begun, by_wide}
use Rattle.ded_query.proofs.Witnesses.{closed_mentions, closed_witness, closed_level, closed_posed, asked_low, asked_is, asked_within}
use Rattle.ded_query.proofs.+evaluated.Goals.{within::gathered-in-Some+in_ok-view_near-in-Some+in_ok-push-in-Some, within::gathered-in-None+in_ok-give-in-None}
use Rattle.ded_query.proofs.+evaluated.Goals as goal
use Rattle.ded_views.proofs.Named.{of_named}

-- ---- evaluated

pub gathering::evaluated-plan-requires : goal.gathering::evaluated-plan-requires
gathering::evaluated-plan-requires g t c =
    record { normal = posed_normal (snapshot_of c.args.strata.now.snapshot.now) (goal_form c.args.goal.now) c.args.strata.now.level c.requires.posed c.normal_goals.ensures.accepted }

pub gathering::evaluated-evaluated_by-requires : goal.gathering::evaluated-evaluated_by-requires
gathering::evaluated-evaluated_by-requires g t c κs within =
    (search rules, (search rules, (record { goal = goal_form c.args.goal.now; posed = c.requires.posed; planned = c.in_ok-plan.ensures }, (c.requires.given, below_plan (snapshot_of c.args.strata.now.snapshot.now) c.args.given.now c.args.tried.now (goal_form c.args.goal.now) (plan_form c.in_ok-plan.plan) c.in_ok-plan.ensures c.requires.below))))

pub gathering::evaluated-returns-clause-is : goal.gathering::evaluated-returns-clause-is
gathering::evaluated-returns-clause-is g t c = c.evaluated_by.ensures.is (goal_form c.args.goal.now) c.requires.posed c.in_ok-plan.ensures

pub gathering::evaluated-returns-clause-wide : goal.gathering::evaluated-returns-clause-wide
gathering::evaluated-returns-clause-wide g t c = λ i. c.evaluated_by.ensures.wide i (goal_form c.args.goal.now) c.requires.posed c.in_ok-plan.ensures

-- ---- evaluated_by

pub gathering::evaluated_by-witnessed-requires : goal.gathering::evaluated_by-witnessed-requires
gathering::evaluated_by-witnessed-requires g t c κs within =
    let cat = snapshot_of c.args.strata.now.snapshot.now in
    let plan = plan_form c.args.plan.now in
    let q = c.requires.posed in
    let a : IsAskedView cat plan c.in-Some.name.now = c.in-Some.ensures in
    (search rules, (search rules, (a.view, (asked_low cat c.formed.ensures q.goal plan c.args.strata.now.level q.posed q.planned c.in-Some.name.now a.asking, (c.requires.given, below_asked cat c.args.given.now c.args.tried.now c.formed.ensures c.in-Some.name.now plan a.asking c.requires.below)))))

pub gathering::evaluated_by-returns-in_ok-truth-in-Ok-clause-is : goal.gathering::evaluated_by-returns-in_ok-truth-in-Ok-clause-is
gathering::evaluated_by-returns-in_ok-truth-in-Ok-clause-is g t c = λ g p k.
    let cat = snapshot_of c.args.strata.now.snapshot.now in
    let plan = plan_form c.args.plan.now in
    let a : IsAskedView cat plan c.in-Some.name.now = c.in-Some.ensures in
    asked_is cat c.formed.ensures g plan c.args.strata.now.level p k c.in-Some.name.now a.asking c.in-Ok.holds c.in-Ok.ensures.is c.in_ok-truth-in-Ok.field-0 c.in_ok-truth-in-Ok.ensures

pub gathering::evaluated_by-returns-in-Err-Wide-clause-gathered : goal.gathering::evaluated_by-returns-in-Err-Wide-clause-gathered
gathering::evaluated_by-returns-in-Err-Wide-clause-gathered g t c =
    let cat = snapshot_of c.args.strata.now.snapshot.now in
    let before : IsGatheredBy cat c.args.given.now c.args.tried.now c.witnessed.new.given c.witnessed.new.tried = search rules in
    on_ok_weaker c.evaluated_whole-in-Err-Wide.result (by_more cat c.args.given.now c.witnessed.new.given c.evaluated_whole-in-Err-Wide.new.given c.args.tried.now c.witnessed.new.tried c.evaluated_whole-in-Err-Wide.new.tried before) c.evaluated_whole-in-Err-Wide.ensures.gathered

pub gathering::evaluated_by-returns-in-Err-Wide-clause-tried : goal.gathering::evaluated_by-returns-in-Err-Wide-clause-tried
gathering::evaluated_by-returns-in-Err-Wide-clause-tried g t c =
    tries_more c.args.given.now c.witnessed.new.given c.args.tried.now c.witnessed.new.tried c.evaluated_whole-in-Err-Wide.new.tried c.witnessed.ensures.front c.witnessed.ensures.tried c.evaluated_whole-in-Err-Wide.ensures.tried

-- ---- witnessed

pub witness::witnessed-overflow_sub-below : goal.witness::witnessed-overflow_sub-below
witness::witnessed-overflow_sub-below g t c =
    let cat = snapshot_of c.args.strata.now.snapshot.now in
    let x : IsClosedPlan cat c.args.name.now (plan_form c.in_ok-plan.plan) = c.in_ok-plan.ensures in
    closed_level cat c.formed.ensures c.args.name.now x.goal c.args.strata.now.level x.closed c.requires.level

pub witness::witnessed-evaluated_whole-requires : goal.witness::witnessed-evaluated_whole-requires
witness::witnessed-evaluated_whole-requires g t c κs within =
    let cat = snapshot_of c.args.strata.now.snapshot.now in
    let n = c.args.name.now in
    let x : IsClosedPlan cat n (plan_form c.in_ok-plan.plan) = c.in_ok-plan.ensures in
    let above : 1 ≤ c.args.strata.now.level = closed_level cat c.formed.ensures n x.goal c.args.strata.now.level x.closed c.requires.level in
    (search rules, (search rules, (record { goal = x.goal; posed = closed_posed cat c.formed.ensures n x.goal c.args.strata.now.level x.closed c.requires.level; planned = x.planned }, (c.requires.given, below_closed cat c.args.given.now c.args.tried.now c.formed.ensures n x.goal (plan_form c.in_ok-plan.plan) x.closed x.planned c.requires.below))))

pub witness::witnessed-holds_everywhere-requires : goal.witness::witnessed-holds_everywhere-requires
witness::witnessed-holds_everywhere-requires g t c =
    let cat = snapshot_of c.args.strata.now.snapshot.now in
    let n = c.args.name.now in
    let x : IsClosedPlan cat n (plan_form c.in_ok-plan.plan) = c.in_ok-plan.ensures in
    let e = c.in_ok-tuples.ensures.is x.goal (closed_posed cat c.formed.ensures n x.goal c.args.strata.now.level x.closed c.requires.level) x.planned in
    record { closed = λ s. ap (λ ts. tuples_mention ts s) (c.deref.ensures.value ∙ c.tuples.view_is) ∙ closed_mentions cat c.formed.ensures n x.goal x.closed c.in_ok-tuples.tuples e s }

pub witness::witnessed-returns-in_default-clause-is : goal.witness::witnessed-returns-in_default-clause-is
witness::witnessed-returns-in_default-clause-is g t c =
    let cat = snapshot_of c.args.strata.now.snapshot.now in
    let n = c.args.name.now in
    let x : IsClosedPlan cat n (plan_form c.in_ok-plan.plan) = c.in_ok-plan.ensures in
    let e = c.in_ok-tuples.ensures.is x.goal (closed_posed cat c.formed.ensures n x.goal c.args.strata.now.level x.closed c.requires.level) x.planned in
    closed_witness cat n x.goal x.closed c.in_ok-tuples.tuples e c.holds_everywhere.result (λ p. ap (λ ts. tuples_hold ts p) (sym (c.deref.ensures.value ∙ c.tuples.view_is)) ∙ c.holds_everywhere.ensures p)

pub witness::witnessed-witnessed-requires : goal.witness::witnessed-witnessed-requires
witness::witnessed-witnessed-requires g t c κs within =
    let cat = snapshot_of c.args.strata.now.snapshot.now in
    let n = c.args.name.now in
    let plan = plan_form c.in_ok-plan.plan in
    let x : IsClosedPlan cat n (plan_form c.in_ok-plan.plan) = c.in_ok-plan.ensures in
    let a : IsAskedView cat (plan_form c.in_ok-plan.plan) c.in-Some.inner.now = c.in-Some.ensures in
    let above : 1 ≤ c.args.strata.now.level = closed_level cat c.formed.ensures n x.goal c.args.strata.now.level x.closed c.requires.level in
    let posed = closed_posed cat c.formed.ensures n x.goal c.args.strata.now.level x.closed c.requires.level in
    (search rules, (search rules, (a.view, (asked_low cat c.formed.ensures x.goal plan (c.args.strata.now.level - 1) posed x.planned c.in-Some.inner.now a.asking, (c.requires.given, below_asked cat c.args.given.now c.args.tried.now c.formed.ensures c.in-Some.inner.now plan a.asking (below_closed cat c.args.given.now c.args.tried.now c.formed.ensures n x.goal plan x.closed x.planned c.requires.below))))))

pub witness::witnessed-returns-clause-is : goal.witness::witnessed-returns-clause-is
witness::witnessed-returns-clause-is g t c =
    let cat = snapshot_of c.args.strata.now.snapshot.now in
    let n = c.args.name.now in
    let plan = plan_form c.in_ok-plan.plan in
    let x : IsClosedPlan cat n (plan_form c.in_ok-plan.plan) = c.in_ok-plan.ensures in
    let a : IsAskedView cat (plan_form c.in_ok-plan.plan) c.in-Some.inner.now = c.in-Some.ensures in
    let posed = closed_posed cat c.formed.ensures n x.goal c.args.strata.now.level x.closed c.requires.level in
    IfOk-weaker c.witnessed.result _ _ (λ b h. asked_within cat c.formed.ensures x.goal plan (c.args.strata.now.level - 1) posed x.planned c.in-Some.inner.now a.asking b h n x.closed) c.witnessed.ensures.is

-- ---- evaluated_whole

pub gathering::evaluated_whole-give_all-requires : goal.gathering::evaluated_whole-give_all-requires
gathering::evaluated_whole-give_all-requires g t c κs within =
    let cat = snapshot_of c.args.strata.now.snapshot.now in
    let plan = plan_form c.args.plan.now in
    let ns = c.deref-2.result.now in
    let all : (n : List ℕ) → plan_uses n plan ≡ list_any (bytes_eq n) ns = λ n. c.in_ok-names.ensures.all n ∙ ap (list_any (bytes_eq n)) (sym c.deref-2.ensures.value) in (
      search rules,
      (
        search rules,
        (
          posed_known cat c.requires.posed.goal plan c.args.strata.now.level c.requires.posed.posed c.requires.posed.planned ns all,
          (
            posed_levels cat c.requires.posed.goal plan c.args.strata.now.level c.requires.posed.posed c.requires.posed.planned ns all,
            (c.requires.given, below_names cat c.args.given.now c.args.tried.now plan ns all c.requires.below),
          ),
        ),
      ),
    )

pub gathering::evaluated_whole-returns-in_err-give_all-clause-wide : goal.gathering::evaluated_whole-returns-in_err-give_all-clause-wide
gathering::evaluated_whole-returns-in_err-give_all-clause-wide g t c = λ i g q k.
    let p = err_from_is_err_and c.from_residual-in_err-give_all.result c.from_residual-in_err-give_all.ensures.1 in
    let is : c.in_err-give_all.field-0.0 ≡ Wide = cc (p.1, p.2, i) in
    let cat = snapshot_of c.args.strata.now.snapshot.now in
    let plan = plan_form c.args.plan.now in
    let ns = c.deref-2.result.now in
    posed_clash cat g plan c.args.strata.now.level q k ns (λ n. c.in_ok-names.ensures.all n ∙ ap (list_any (bytes_eq n)) (sym c.deref-2.ensures.value)) (c.in_err-give_all.ensures.wide (ap Err is))

pub gathering::evaluated_whole-evaluate-requires : goal.gathering::evaluated_whole-evaluate-requires
gathering::evaluated_whole-evaluate-requires g t c =
    let cat = snapshot_of c.args.strata.now.snapshot.now in
    let plan = plan_form c.args.plan.now in
    let ns = c.deref-2.result.now in
    let gs = c.give_all.new.given in
    let rs = over_relations cat None gs in
    evaluable cat c.requires.posed.posed.formula rs (shaped cat rs (over_right cat None gs c.formed.ensures c.in_ok-give_all.ensures.gathered.gathered.of)) plan
    (posed_scans cat c.requires.posed.goal plan c.args.strata.now.level c.requires.posed.posed c.requires.posed.planned)
    (λ n u. of_named (λ m. has_name m rs ≡ true) ns n c.in_ok-give_all.ensures.all (sym (c.in_ok-names.ensures.all n ∙ ap (list_any (bytes_eq n)) (sym c.deref-2.ensures.value)) ∙ u))

pub gathering::evaluated_whole-returns-clause-is : goal.gathering::evaluated_whole-returns-clause-is
gathering::evaluated_whole-returns-clause-is g t c = λ g p k.
    let cat = snapshot_of c.args.strata.now.snapshot.now in
    let plan = plan_form c.args.plan.now in
    let ns = c.deref-2.result.now in
    let gs = c.give_all.new.given in
    let rs = over_relations cat None gs in
    let uses : (n : List ℕ) → plan_uses n plan ≡ true → has_name n rs ≡ true =
    λ n u. of_named (λ m. has_name m rs ≡ true) ns n c.in_ok-give_all.ensures.all (sym (c.in_ok-names.ensures.all n ∙ ap (list_any (bytes_eq n)) (sym c.deref-2.ensures.value)) ∙ u) in
    IfOk-weaker c.evaluate.result _ _
    (λ ts e. evaluated_of cat g plan rs (over_right cat None gs c.formed.ensures c.in_ok-give_all.ensures.gathered.gathered.of) k p.formula (posed_scans cat g plan c.args.strata.now.level p k) ts uses e) c.evaluate.ensures.is

pub gathering::evaluated_whole-returns-clause-wide : goal.gathering::evaluated_whole-returns-clause-wide
gathering::evaluated_whole-returns-clause-wide g t c = λ i g p k.
    let cat = snapshot_of c.args.strata.now.snapshot.now in
    let gs = c.give_all.new.given in
    clash_of_goal cat g (plan_form c.args.plan.now) (over_relations cat None gs) (shaped cat (over_relations cat None gs) (over_right cat None gs c.formed.ensures c.in_ok-give_all.ensures.gathered.gathered.of)) k (c.evaluate.ensures.wide i)

pub gathering::evaluated_whole-returns-in_err-give_all-clause-left : goal.gathering::evaluated_whole-returns-in_err-give_all-clause-left
gathering::evaluated_whole-returns-in_err-give_all-clause-left g t c = λ i.
    let p = err_from_is_err_and c.from_residual-in_err-give_all.result c.from_residual-in_err-give_all.ensures.1 in
    let is : c.in_err-give_all.field-0.0 ≡ Wide = cc (p.1, p.2, i) in
    c.in_err-give_all.ensures.left (ap Err is)

-- ---- evaluated_near

pub within::evaluated_near-gathered-requires : goal.within::evaluated_near-gathered-requires
within::evaluated_near-gathered-requires g t c κs within =
    let cat = snapshot_of c.args.strata.now.snapshot.now in
    let plan = plan_form c.args.plan.now in
    let q = c.requires.posed in
    let ss = c.deref.result.now in
    let r : IsReadWithin plan c.new.result.items ss = subst (IsReadWithin plan c.new.result.items) (sym c.deref.ensures.value) c.in_ok-scans.ensures in
    (search rules, (search rules, (posed_readable cat q.goal plan c.args.strata.now.level q.posed q.planned c.new.result.items ss r, (c.requires.given, below_scans cat c.args.given.now c.args.tried.now plan c.new.result.items ss r c.requires.below))))

pub within::evaluated_near-returns-in_err-near-clause-wide : goal.within::evaluated_near-returns-in_err-near-clause-wide
within::evaluated_near-returns-in_err-near-clause-wide g t c = λ i g p k.
    let cat = snapshot_of c.args.strata.now.snapshot.now in
    let plan = plan_form c.args.plan.now in
    let q = c.requires.posed in
    let ss = c.deref.result.now in
    let r : IsReadWithin plan c.new.result.items ss = subst (IsReadWithin plan c.new.result.items) (sym c.deref.ensures.value) c.in_ok-scans.ensures in
    let e = err_from_is_err_and c.from_residual-in_err-near.result c.from_residual-in_err-near.ensures.1 in
    let is : c.in_err-near.field-0.0 ≡ Wide = cc (e.1, e.2, i) in
    scans_clash cat g plan c.args.strata.now.level p k c.new.result.items ss r (c.in_err-near.ensures.wide (ap Err is))

pub within::evaluated_near-returns-in_err-add_all-clause-front : goal.within::evaluated_near-returns-in_err-add_all-clause-front
within::evaluated_near-returns-in_err-add_all-clause-front g t c = front_more c.args.given.now _ c.add_all.new.given c.in_ok-near.ensures.front c.in_err-add_all.ensures.front

pub within::evaluated_near-evaluate-tuples-requires : goal.within::evaluated_near-evaluate-tuples-requires
within::evaluated_near-evaluate-tuples-requires g t c =
    let cat = snapshot_of c.args.strata.now.snapshot.now in
    let plan = plan_form c.args.plan.now in
    let q = c.requires.posed in
    let ss = c.deref.result.now in
    let r : IsReadWithin plan c.new.result.items ss = subst (IsReadWithin plan c.new.result.items) (sym c.deref.ensures.value) c.in_ok-scans.ensures in
    near_evaluable cat q.goal plan c.args.strata.now.level q.posed q.planned c.new.result.items ss r _ c.in_ok-near.near.items c.add_all.new.given c.in_ok-add_all.ensures.all c.formed.ensures c.in_ok-near.ensures.gathered.gathered.of c.in_ok-near.ensures.near c.in_ok-near.ensures.all

pub within::evaluated_near-returns-clause-is : goal.within::evaluated_near-returns-clause-is
within::evaluated_near-returns-clause-is g t c = λ g p k.
    let cat = snapshot_of c.args.strata.now.snapshot.now in
    let plan = plan_form c.args.plan.now in
    let q = c.requires.posed in
    let ss = c.deref.result.now in
    let r : IsReadWithin plan c.new.result.items ss = subst (IsReadWithin plan c.new.result.items) (sym c.deref.ensures.value) c.in_ok-scans.ensures in
    IfOk-weaker c.evaluate-tuples.result _ _ (λ us e. evaluated_everywhere cat g us (evaluated_inside cat g plan (over_relations cat None c.add_all.new.given) (right_shapes cat q.goal plan c.args.strata.now.level q.posed q.planned c.new.result.items ss r _ c.in_ok-near.near.items c.add_all.new.given c.in_ok-add_all.ensures.all c.formed.ensures c.in_ok-near.ensures.gathered.gathered.of c.in_ok-near.ensures.near c.in_ok-near.ensures.all) k c.new.result.items (λ x. true) ss us r (near_agrees cat q.goal plan c.args.strata.now.level q.posed q.planned c.new.result.items ss r _ c.in_ok-near.near.items c.add_all.new.given c.in_ok-add_all.ensures.all c.formed.ensures c.in_ok-near.ensures.gathered.gathered.of c.in_ok-near.ensures.near c.in_ok-near.ensures.all) (λ x w. holds_without c.new.result.items c.new.ensures.items x) e)) c.evaluate-tuples.ensures.is

pub within::evaluated_near-returns-clause-gathered : goal.within::evaluated_near-returns-clause-gathered
within::evaluated_near-returns-clause-gathered g t c =
    IfOk-weaker c.evaluate-tuples.result _ _ (λ us e. subst (λ gs. IsGatheredBy (snapshot_of c.args.strata.now.snapshot.now) c.args.given.now c.args.tried.now gs c.gathered.new.tried) (sym (c.keep_first.ensures ∙ ap (λ k. take k c.add_all.new.given) c.count-count.ensures ∙ front_kept _ c.add_all.new.given c.in_ok-add_all.ensures.front)) c.in_ok-near.ensures.gathered) c.evaluate-tuples.ensures.is

pub within::evaluated_near-returns-clause-left : goal.within::evaluated_near-returns-clause-left
within::evaluated_near-returns-clause-left g t c = λ i.
    subst (λ gs. IsGatheredBy (snapshot_of c.args.strata.now.snapshot.now) c.args.given.now c.args.tried.now gs c.gathered.new.tried) (sym (c.keep_first.ensures ∙ ap (λ k. take k c.add_all.new.given) c.count-count.ensures ∙ front_kept _ c.add_all.new.given c.in_ok-add_all.ensures.front)) c.in_ok-near.ensures.gathered

pub within::evaluated_near-returns-clause-front : goal.within::evaluated_near-returns-clause-front
within::evaluated_near-returns-clause-front g t c = subst (IsFront c.args.given.now) (sym (c.keep_first.ensures ∙ ap (λ k. take k c.add_all.new.given) c.count-count.ensures ∙ front_kept _ c.add_all.new.given c.in_ok-add_all.ensures.front)) c.in_ok-near.ensures.front

pub within::evaluated_near-returns-clause-wide : goal.within::evaluated_near-returns-clause-wide
within::evaluated_near-returns-clause-wide g t c = λ i g p k.
    let cat = snapshot_of c.args.strata.now.snapshot.now in
    let plan = plan_form c.args.plan.now in
    let q = c.requires.posed in
    let ss = c.deref.result.now in
    let r : IsReadWithin plan c.new.result.items ss = subst (IsReadWithin plan c.new.result.items) (sym c.deref.ensures.value) c.in_ok-scans.ensures in
    clash_of_goal cat g plan (over_relations cat None c.add_all.new.given) (right_shapes cat q.goal plan c.args.strata.now.level q.posed q.planned c.new.result.items ss r _ c.in_ok-near.near.items c.add_all.new.given c.in_ok-add_all.ensures.all c.formed.ensures c.in_ok-near.ensures.gathered.gathered.of c.in_ok-near.ensures.near c.in_ok-near.ensures.all) k (c.evaluate-tuples.ensures.wide i)

pub within::evaluated_near-returns-in_err-near-clause-left : goal.within::evaluated_near-returns-in_err-near-clause-left
within::evaluated_near-returns-in_err-near-clause-left g t c = λ i.
    let p = err_from_is_err_and c.from_residual-in_err-near.result c.from_residual-in_err-near.ensures.1 in
    let is : c.in_err-near.field-0.0 ≡ Wide = cc (p.1, p.2, i) in
    c.in_err-near.ensures.left (ap Err is)

-- ---- evaluated_within

pub within::evaluated_within-gathered-requires : goal.within::evaluated_within-gathered-requires
within::evaluated_within-gathered-requires g t c κs within =
    let cat = snapshot_of c.args.strata.now.snapshot.now in
    let plan = plan_form c.args.plan.now in
    let q = c.requires.posed in
    let ss = c.deref.result.now in
    let r : IsReadWithin plan c.args.within.now ss = subst (IsReadWithin plan c.args.within.now) (sym c.deref.ensures.value) c.in_ok-scans.ensures in
    (search rules, (search rules, (posed_readable cat q.goal plan c.args.strata.now.level q.posed q.planned c.args.within.now ss r, (c.requires.given, below_scans cat c.args.given.now c.args.tried.now plan c.args.within.now ss r c.requires.below))))

pub within::evaluated_within-returns-in_err-near-clause-wide : goal.within::evaluated_within-returns-in_err-near-clause-wide
within::evaluated_within-returns-in_err-near-clause-wide g t c = λ i g p k.
    let cat = snapshot_of c.args.strata.now.snapshot.now in
    let plan = plan_form c.args.plan.now in
    let q = c.requires.posed in
    let ss = c.deref.result.now in
    let r : IsReadWithin plan c.args.within.now ss = subst (IsReadWithin plan c.args.within.now) (sym c.deref.ensures.value) c.in_ok-scans.ensures in
    let e = err_from_is_err_and c.from_residual-in_err-near.result c.from_residual-in_err-near.ensures.1 in
    let is : c.in_err-near.field-0.0 ≡ Wide = cc (e.1, e.2, i) in
    scans_clash cat g plan c.args.strata.now.level p k c.args.within.now ss r (c.in_err-near.ensures.wide (ap Err is))

pub within::evaluated_within-returns-in_err-add_all-clause-front : goal.within::evaluated_within-returns-in_err-add_all-clause-front
within::evaluated_within-returns-in_err-add_all-clause-front g t c = front_more c.args.given.now _ c.add_all.new.given c.in_ok-near.ensures.front c.in_err-add_all.ensures.front

pub within::evaluated_within-evaluate_within-tuples-requires : goal.within::evaluated_within-evaluate_within-tuples-requires
within::evaluated_within-evaluate_within-tuples-requires g t c =
    let cat = snapshot_of c.args.strata.now.snapshot.now in
    let plan = plan_form c.args.plan.now in
    let q = c.requires.posed in
    let ss = c.deref.result.now in
    let r : IsReadWithin plan c.args.within.now ss = subst (IsReadWithin plan c.args.within.now) (sym c.deref.ensures.value) c.in_ok-scans.ensures in
    near_evaluable cat q.goal plan c.args.strata.now.level q.posed q.planned c.args.within.now ss r _ c.in_ok-near.near.items c.add_all.new.given c.in_ok-add_all.ensures.all c.formed.ensures c.in_ok-near.ensures.gathered.gathered.of c.in_ok-near.ensures.near c.in_ok-near.ensures.all

pub within::evaluated_within-returns-clause-is : goal.within::evaluated_within-returns-clause-is
within::evaluated_within-returns-clause-is g t c = λ g p k.
    let cat = snapshot_of c.args.strata.now.snapshot.now in
    let plan = plan_form c.args.plan.now in
    let q = c.requires.posed in
    let ss = c.deref.result.now in
    let r : IsReadWithin plan c.args.within.now ss = subst (IsReadWithin plan c.args.within.now) (sym c.deref.ensures.value) c.in_ok-scans.ensures in
    IfOk-weaker c.evaluate_within-tuples.result _ _ (λ us e. evaluated_inside cat g plan (over_relations cat None c.add_all.new.given) (right_shapes cat q.goal plan c.args.strata.now.level q.posed q.planned c.args.within.now ss r _ c.in_ok-near.near.items c.add_all.new.given c.in_ok-add_all.ensures.all c.formed.ensures c.in_ok-near.ensures.gathered.gathered.of c.in_ok-near.ensures.near c.in_ok-near.ensures.all) k c.args.within.now (tuple_holds c.args.within.now) ss us r (near_agrees cat q.goal plan c.args.strata.now.level q.posed q.planned c.args.within.now ss r _ c.in_ok-near.near.items c.add_all.new.given c.in_ok-add_all.ensures.all c.formed.ensures c.in_ok-near.ensures.gathered.gathered.of c.in_ok-near.ensures.near c.in_ok-near.ensures.all) (λ x w. w) e) c.evaluate_within-tuples.ensures.is

pub within::evaluated_within-returns-clause-gathered : goal.within::evaluated_within-returns-clause-gathered
within::evaluated_within-returns-clause-gathered g t c =
    IfOk-weaker c.evaluate_within-tuples.result _ _ (λ us e. subst (λ gs. IsGatheredBy (snapshot_of c.args.strata.now.snapshot.now) c.args.given.now c.args.tried.now gs c.gathered.new.tried) (sym (c.keep_first.ensures ∙ ap (λ k. take k c.add_all.new.given) c.count-count.ensures ∙ front_kept _ c.add_all.new.given c.in_ok-add_all.ensures.front)) c.in_ok-near.ensures.gathered) c.evaluate_within-tuples.ensures.is

pub within::evaluated_within-returns-clause-left : goal.within::evaluated_within-returns-clause-left
within::evaluated_within-returns-clause-left g t c = λ i.
    subst (λ gs. IsGatheredBy (snapshot_of c.args.strata.now.snapshot.now) c.args.given.now c.args.tried.now gs c.gathered.new.tried) (sym (c.keep_first.ensures ∙ ap (λ k. take k c.add_all.new.given) c.count-count.ensures ∙ front_kept _ c.add_all.new.given c.in_ok-add_all.ensures.front)) c.in_ok-near.ensures.gathered

pub within::evaluated_within-returns-clause-front : goal.within::evaluated_within-returns-clause-front
within::evaluated_within-returns-clause-front g t c = subst (IsFront c.args.given.now) (sym (c.keep_first.ensures ∙ ap (λ k. take k c.add_all.new.given) c.count-count.ensures ∙ front_kept _ c.add_all.new.given c.in_ok-add_all.ensures.front)) c.in_ok-near.ensures.front

pub within::evaluated_within-returns-clause-wide : goal.within::evaluated_within-returns-clause-wide
within::evaluated_within-returns-clause-wide g t c = λ i g p k.
    let cat = snapshot_of c.args.strata.now.snapshot.now in
    let plan = plan_form c.args.plan.now in
    let q = c.requires.posed in
    let ss = c.deref.result.now in
    let r : IsReadWithin plan c.args.within.now ss = subst (IsReadWithin plan c.args.within.now) (sym c.deref.ensures.value) c.in_ok-scans.ensures in
    clash_of_goal cat g plan (over_relations cat None c.add_all.new.given) (right_shapes cat q.goal plan c.args.strata.now.level q.posed q.planned c.args.within.now ss r _ c.in_ok-near.near.items c.add_all.new.given c.in_ok-add_all.ensures.all c.formed.ensures c.in_ok-near.ensures.gathered.gathered.of c.in_ok-near.ensures.near c.in_ok-near.ensures.all) k (c.evaluate_within-tuples.ensures.wide i)

pub within::evaluated_within-returns-in_err-near-clause-left : goal.within::evaluated_within-returns-in_err-near-clause-left
within::evaluated_within-returns-in_err-near-clause-left g t c = λ i.
    let p = err_from_is_err_and c.from_residual-in_err-near.result c.from_residual-in_err-near.ensures.1 in
    let is : c.in_err-near.field-0.0 ≡ Wide = cc (p.1, p.2, i) in
    c.in_err-near.ensures.left (ap Err is)

-- ---- gathered

pub within::gathered-loop-scan-init : goal.within::gathered-loop-scan-init
within::gathered-loop-scan-init g t c =
    let cat = snapshot_of c.args.strata.now.snapshot.now in (
      by_none cat c.args.given.now c.args.tried.now c.requires.given,
      subst (AllByRecursion (IsGivenNear cat c.args.scans.now)) (sym c.new-near.ensures.items) tt,
      tt,
      front_none c.args.given.now,
      tries_none c.args.given.now c.args.tried.now,
    )

pub within::gathered-view_near-requires : goal.within::gathered-view_near-requires
within::gathered-view_near-requires g t c κs within =
    let cat = snapshot_of c.args.strata.now.snapshot.now in
    let ss = c.args.scans.now in (
      search rules,
      (
        search rules,
        (
          c.in-Some.ensures.view,
          (
            all-at (IsReadable cat c.args.strata.now.level) ss c.loop-scan.scan-index c.scan-item.result c.loop-scan-test.true c.scan-item.is c.requires.scans,
            (
              c.loop-scan.invariant.0.gathered.of,
              below_scan cat c.args.given.now c.loop-scan.given c.args.tried.now c.loop-scan.tried c.loop-scan.invariant.0 ss c.loop-scan.scan-index c.scan-item.result c.loop-scan-test.true c.scan-item.is c.requires.below,
            ),
          ),
        ),
      ),
    )

pub within::gathered-give-requires : goal.within::gathered-give-requires
within::gathered-give-requires g t c κs within =
    let cat = snapshot_of c.args.strata.now.snapshot.now in
    let ss = c.args.scans.now in
    let own = all-at (IsReadable cat c.args.strata.now.level) ss c.loop-scan.scan-index c.scan-item.result c.loop-scan-test.true c.scan-item.is c.requires.scans in (
      search rules,
      (
        search rules,
        (
          own.defined,
          (
            own.level,
            (
              c.loop-scan.invariant.0.gathered.of,
              below_scan cat c.args.given.now c.loop-scan.given c.args.tried.now c.loop-scan.tried c.loop-scan.invariant.0 ss c.loop-scan.scan-index c.scan-item.result c.loop-scan-test.true c.scan-item.is c.requires.below,
            ),
          ),
        ),
      ),
    )

pub within::gathered-returns-in_err-view_near-in-Some-clause-tried : goal.within::gathered-returns-in_err-view_near-in-Some-clause-tried
within::gathered-returns-in_err-view_near-in-Some-clause-tried g t c =
    tries_more c.args.given.now c.loop-scan.given c.args.tried.now c.loop-scan.tried c.view_near.new.tried c.loop-scan.invariant.3 c.loop-scan.invariant.4 c.view_near.ensures.tried

pub within::gathered-returns-in_err-push-in-Some-clause-tried : goal.within::gathered-returns-in_err-push-in-Some-clause-tried
within::gathered-returns-in_err-push-in-Some-clause-tried g t c =
    tries_more c.args.given.now c.loop-scan.given c.args.tried.now c.loop-scan.tried c.view_near.new.tried c.loop-scan.invariant.3 c.loop-scan.invariant.4 c.view_near.ensures.tried

pub within::gathered-returns-in_err-give-in-None-clause-tried : goal.within::gathered-returns-in_err-give-in-None-clause-tried
within::gathered-returns-in_err-give-in-None-clause-tried g t c =
    tries_more c.args.given.now c.loop-scan.given c.args.tried.now c.loop-scan.tried c.give.new.tried c.loop-scan.invariant.3 c.loop-scan.invariant.4 c.give.ensures.tried

pub within::gathered-loop-scan-preserved : goal.within::gathered-loop-scan-preserved
within::gathered-loop-scan-preserved g t c =
    let cat = snapshot_of c.args.strata.now.snapshot.now in
    let ss = c.args.scans.now in
    let old = c.args.given.now in
    let before = c.args.tried.now in
    let next = c.loop-scan.scan-index + 1 in
    elim c.match-near_goal.branch [
      | within::gathered-in-Some+in_ok-view_near-in-Some+in_ok-push-in-Some w ↦ subst (λ gs. IsGatheredTo cat ss old before next gs c.match-near_goal.tried c.match-near_goal.near.items) (sym w.given-is)
          (subst (λ us. IsGatheredTo cat ss old before next w.view_near.new.given us c.match-near_goal.near.items) (sym w.tried-is)
          (subst (λ xs. IsGatheredTo cat ss old before next w.view_near.new.given w.view_near.new.tried xs) (sym (ap (λ v. v.items) w.near-is ∙ w.in_ok-push-in-Some.ensures.items))
          (near_next cat ss old before c.loop-scan.scan-index c.scan-item.result c.loop-scan-test.true c.scan-item.is c.loop-scan.given w.view_near.new.given c.loop-scan.tried w.view_near.new.tried c.loop-scan.near.items c.loop-scan.invariant
          w.in_ok-view_near-in-Some.ensures.gathered w.in_ok-view_near-in-Some.ensures.front w.in_ok-view_near-in-Some.ensures.tried w.in_ok-view_near-in-Some.field-0 w.in_ok-view_near-in-Some.ensures.is w.in-Some.ensures.once)))
      | within::gathered-in-None+in_ok-give-in-None w ↦ subst (λ gs. IsGatheredTo cat ss old before next gs c.match-near_goal.tried c.match-near_goal.near.items) (sym w.given-is)
          (subst (λ us. IsGatheredTo cat ss old before next w.give.new.given us c.match-near_goal.near.items) (sym w.tried-is)
          (subst (λ xs. IsGatheredTo cat ss old before next w.give.new.given w.give.new.tried xs) (sym (ap (λ v. v.items) w.near-is))
          (whole_next cat ss old before c.loop-scan.scan-index c.scan-item.result c.loop-scan-test.true c.scan-item.is c.loop-scan.given w.give.new.given c.loop-scan.tried w.give.new.tried c.loop-scan.near.items c.loop-scan.invariant
          w.in_ok-give-in-None.ensures.gathered w.in_ok-give-in-None.ensures.front w.in_ok-give-in-None.ensures.tried w.in_ok-give-in-None.ensures.is)))
    ]

-- ---- view_near

pub within::view_near-plan-requires : goal.within::view_near-plan-requires
within::view_near-plan-requires g t c =
    let cat = snapshot_of c.args.strata.now.snapshot.now in
    let n = c.args.scan.now.name in
    let g = goal_form c.args.goal.now in
    let low = view_low cat n g c.args.strata.now.level c.formed.ensures c.requires.view c.requires.readable.level in
    let p = view_posed cat n g c.args.strata.now.level c.formed.ensures c.requires.view low in
    record { normal = posed_normal cat g (c.args.strata.now.level - 1) p c.normal_goals.ensures.accepted }

pub within::view_near-overflow_sub-below : goal.within::view_near-overflow_sub-below
within::view_near-overflow_sub-below g t c =
    let cat = snapshot_of c.args.strata.now.snapshot.now in
    let n = c.args.scan.now.name in
    let g = goal_form c.args.goal.now in
    let low = view_low cat n g c.args.strata.now.level c.formed.ensures c.requires.view c.requires.readable.level in
    view_level cat n g c.args.strata.now.level c.formed.ensures c.requires.view low

pub within::view_near-evaluated_within-requires : goal.within::view_near-evaluated_within-requires
within::view_near-evaluated_within-requires g t c κs within =
    let cat = snapshot_of c.args.strata.now.snapshot.now in
    let n = c.args.scan.now.name in
    let f = goal_form c.args.goal.now in
    let low = view_low cat n f c.args.strata.now.level c.formed.ensures c.requires.view c.requires.readable.level in
    let above : 1 ≤ c.args.strata.now.level = view_level cat n f c.args.strata.now.level c.formed.ensures c.requires.view low in
    (search rules, (search rules, (record { goal = f; posed = view_posed cat n f c.args.strata.now.level c.formed.ensures c.requires.view low; planned = c.in_ok-plan.ensures }, (c.requires.given, below_near cat c.args.given.now c.args.tried.now c.formed.ensures n f c.requires.view c.requires.below (plan_form c.in_ok-plan.plan) c.in_ok-plan.ensures))))

pub within::view_near-returns-in_err-tuples-clause-wide : goal.within::view_near-returns-in_err-tuples-clause-wide
within::view_near-returns-in_err-tuples-clause-wide g t c = λ i.
    let cat = snapshot_of c.args.strata.now.snapshot.now in
    let n = c.args.scan.now.name in
    let g = goal_form c.args.goal.now in
    let low = view_low cat n g c.args.strata.now.level c.formed.ensures c.requires.view c.requires.readable.level in
    let e = err_from_is_err_and c.from_residual-in_err-tuples.result c.from_residual-in_err-tuples.ensures.1 in
    let is : c.in_err-tuples.field-0.0 ≡ Wide = cc (e.1, e.2, i) in
    view_clash cat n g c.formed.ensures c.requires.view (c.in_err-tuples.ensures.wide (ap Err is) g (view_posed cat n g c.args.strata.now.level c.formed.ensures c.requires.view low) c.in_ok-plan.ensures)

pub within::view_near-view_relation-requires : goal.within::view_near-view_relation-requires
within::view_near-view_relation-requires g t c = view_known (snapshot_of c.args.strata.now.snapshot.now) c.args.scan.now.name (goal_form c.args.goal.now) c.formed.ensures c.requires.view

pub within::view_near-returns-clause-is : goal.within::view_near-returns-clause-is
within::view_near-returns-clause-is g t c =
    let cat = snapshot_of c.args.strata.now.snapshot.now in
    let n = c.args.scan.now.name in
    let g = goal_form c.args.goal.now in
    let low = view_low cat n g c.args.strata.now.level c.formed.ensures c.requires.view c.requires.readable.level in
    let at = c.in_ok-within.ensures in
    let near = c.in_ok-view_relation.ensures in
    let all = c.in_ok-tuples.ensures.is g (view_posed cat n g c.args.strata.now.level c.formed.ensures c.requires.view low) c.in_ok-plan.ensures in
    let part = inside_part cat g (tuple_holds c.in_ok-within.within) c.in_ok-tuples.tuples c.in_ok-reduced.field-0 all c.in_ok-reduced.ensures.holds c.in_ok-reduced.ensures.slots c.in_ok-reduced.ensures.lines in
    near_as cat c.args.strata.now.level c.args.scan.now g c.in_ok-within.within c.in_ok-reduced.field-0 c.formed.ensures c.requires.view c.requires.readable at part c.in_ok-reduced.ensures.normal
    c.in_ok-view_relation.field-0 near

pub within::view_near-returns-in_err-tuples-clause-left : goal.within::view_near-returns-in_err-tuples-clause-left
within::view_near-returns-in_err-tuples-clause-left g t c = λ i.
    let p = err_from_is_err_and c.from_residual-in_err-tuples.result c.from_residual-in_err-tuples.ensures.1 in
    let is : c.in_err-tuples.field-0.0 ≡ Wide = cc (p.1, p.2, i) in
    c.in_err-tuples.ensures.left (ap Err is)

-- ---- give

pub giving::give-give_view-requires : goal.giving::give-give_view-requires
giving::give-give_view-requires g t c κs within =
    let cat = snapshot_of c.args.strata.now.snapshot.now in
    let view = view_goal cat c.args.name.now (goal_form c.in-Some.goal.now) c.in-Some.ensures in (
      search rules,
      (
        search rules,
        (
          view,
          (
            view_low cat c.args.name.now (goal_form c.in-Some.goal.now) c.args.strata.now.level c.formed.ensures view c.requires.level,
            (c.requires.given, (c.requires.below, (sym c.has.ensures ∙ c.if-has.false, sym c.has-2.ensures ∙ c.if-has-2.false))),
          ),
        ),
      ),
    )

pub giving::give-returns-then-has-clause-is : goal.giving::give-returns-then-has-clause-is
giving::give-returns-then-has-clause-is g t c = given_there (snapshot_of c.args.strata.now.snapshot.now) None c.args.given.now c.args.name.now (sym c.has.ensures ∙ c.if-has.true)

pub giving::give-returns-then-is_relation-clause-is : goal.giving::give-returns-then-is_relation-clause-is
giving::give-returns-then-is_relation-clause-is g t c =
    stored_there (snapshot_of c.args.strata.now.snapshot.now) None c.args.given.now c.args.name.now refl (sym c.is_relation.ensures ∙ c.if-is_relation.true)

pub giving::give-returns-then-has-2-clause-left : goal.giving::give-returns-then-has-2-clause-left
giving::give-returns-then-has-2-clause-left g t c = λ i. by_none (snapshot_of c.args.strata.now.snapshot.now) c.args.given.now c.args.tried.now c.requires.given

pub giving::give-returns-then-has-2-clause-wide : goal.giving::give-returns-then-has-2-clause-wide
giving::give-returns-then-has-2-clause-wide g t c = λ i.
    let cat = snapshot_of c.args.strata.now.snapshot.now in
    let n = c.args.name.now in
    let f = goal_form c.in-Some.goal.now in
    tried_clash cat c.args.given.now c.args.tried.now c.formed.ensures n f (view_goal cat n f c.in-Some.ensures) c.requires.below (sym c.has.ensures ∙ c.if-has.false) (sym c.has-2.ensures ∙ c.if-has-2.true)

pub giving::give-returns-clause-is : goal.giving::give-returns-clause-is
giving::give-returns-clause-is g t c = on_ok_weaker c.give_view.result (given_there (snapshot_of c.args.strata.now.snapshot.now) None c.give_view.new.given c.args.name.now) c.give_view.ensures.is

-- ---- give_all

pub giving::give_all-loop-name-init : goal.giving::give_all-loop-name-init
giving::give_all-loop-name-init g t c = (by_none (snapshot_of c.args.strata.now.snapshot.now) c.args.given.now c.args.tried.now c.requires.given, tt, front_none c.args.given.now, tries_none c.args.given.now c.args.tried.now)

pub giving::give_all-give-requires : goal.giving::give_all-give-requires
giving::give_all-give-requires g t c κs within =
    let k = known (snapshot_of c.args.strata.now.snapshot.now) in (
      search rules,
      (
        search rules,
        (
          all-at (λ n. is_some (k (base n)) ≡ true) c.args.names.now c.loop-name.name-index c.name-item.result c.loop-name-test.true c.name-item.is c.requires.defined,
          (
            all-at (λ n. level_with (k (base n)) ≤ c.args.strata.now.level) c.args.names.now c.loop-name.name-index c.name-item.result c.loop-name-test.true c.name-item.is c.requires.levels,
            (c.loop-name.invariant.0.gathered.of, below_name (snapshot_of c.args.strata.now.snapshot.now) c.args.given.now c.loop-name.given c.args.tried.now c.loop-name.tried c.loop-name.invariant.0 c.args.names.now c.loop-name.name-index c.name-item.result c.loop-name-test.true c.name-item.is c.requires.below),
          ),
        ),
      ),
    )

pub giving::give_all-loop-name-preserved : goal.giving::give_all-loop-name-preserved
giving::give_all-loop-name-preserved g t c =
    let cat = snapshot_of c.args.strata.now.snapshot.now in (
      by_more cat c.args.given.now c.loop-name.given c.give.new.given c.args.tried.now c.loop-name.tried c.give.new.tried c.loop-name.invariant.0 c.in_ok-give.ensures.gathered,
      named_more cat c.args.names.now c.loop-name.name-index c.name-item.result c.loop-name.given c.give.new.given c.loop-name-test.true c.name-item.is c.in_ok-give.ensures.gathered.gathered c.in_ok-give.ensures.is c.loop-name.invariant.1,
      front_more c.args.given.now c.loop-name.given c.give.new.given c.loop-name.invariant.2 c.give.ensures.front,
      tries_more c.args.given.now c.loop-name.given c.args.tried.now c.loop-name.tried c.give.new.tried c.loop-name.invariant.2 c.loop-name.invariant.3 c.give.ensures.tried,
    )

pub giving::give_all-returns-clause-gathered : goal.giving::give_all-returns-clause-gathered
giving::give_all-returns-clause-gathered g t c = c.loop-name.invariant.0

pub giving::give_all-returns-clause-all : goal.giving::give_all-returns-clause-all
giving::give_all-returns-clause-all g t c =
    subst (AllByRecursion (λ n. has_name n (over_relations (snapshot_of c.args.strata.now.snapshot.now) None c.loop-name.given) ≡ true)) (take_all c.loop-name.name-index c.args.names.now c.loop-name-test.false) c.loop-name.invariant.1

pub giving::give_all-returns-clause-front : goal.giving::give_all-returns-clause-front
giving::give_all-returns-clause-front g t c = c.loop-name.invariant.2

pub giving::give_all-returns-in_err-give-clause-front : goal.giving::give_all-returns-in_err-give-clause-front
giving::give_all-returns-in_err-give-clause-front g t c = front_more c.args.given.now c.loop-name.given c.give.new.given c.loop-name.invariant.2 c.give.ensures.front

pub giving::give_all-returns-clause-tried : goal.giving::give_all-returns-clause-tried
giving::give_all-returns-clause-tried g t c = c.loop-name.invariant.3

pub giving::give_all-returns-in_err-give-clause-tried : goal.giving::give_all-returns-in_err-give-clause-tried
giving::give_all-returns-in_err-give-clause-tried g t c =
    tries_more c.args.given.now c.loop-name.given c.args.tried.now c.loop-name.tried c.give.new.tried c.loop-name.invariant.2 c.loop-name.invariant.3 c.give.ensures.tried

pub giving::give_all-returns-in_err-give-clause-left : goal.giving::give_all-returns-in_err-give-clause-left
giving::give_all-returns-in_err-give-clause-left g t c = λ i.
    let p = err_from_is_err_and c.from_residual.result c.from_residual.ensures.1 in
    let is : c.in_err-give.field-0.0 ≡ Wide = cc (p.1, p.2, i) in
    by_more (snapshot_of c.args.strata.now.snapshot.now) c.args.given.now c.loop-name.given c.give.new.given c.args.tried.now c.loop-name.tried c.give.new.tried c.loop-name.invariant.0 (c.in_err-give.ensures.left (ap Err is))

-- ---- give_view

pub giving::give_view-overflow_sub-below : goal.giving::give_view-overflow_sub-below
giving::give_view-overflow_sub-below g t c = view_level (snapshot_of c.args.strata.now.snapshot.now) c.args.name.now (goal_form c.args.goal.now) c.args.strata.now.level c.formed.ensures c.requires.view c.requires.level

pub giving::give_view-evaluated-requires : goal.giving::give_view-evaluated-requires
giving::give_view-evaluated-requires g t c κs within =
    let cat = snapshot_of c.args.strata.now.snapshot.now in
    let above : 1 ≤ c.args.strata.now.level = view_level cat c.args.name.now (goal_form c.args.goal.now) c.args.strata.now.level c.formed.ensures c.requires.view c.requires.level in (
      search rules,
      (
        search rules,
        (
          view_posed cat c.args.name.now (goal_form c.args.goal.now) c.args.strata.now.level c.formed.ensures c.requires.view c.requires.level,
          (c.requires.given, below_begun cat c.args.given.now c.args.tried.now c.formed.ensures c.args.name.now (goal_form c.args.goal.now) c.requires.view c.requires.below c.begin.new.self c.in_ok-begin.ensures.ok),
        ),
      ),
    )

pub giving::give_view-returns-in_err-tuples-clause-wide : goal.giving::give_view-returns-in_err-tuples-clause-wide
giving::give_view-returns-in_err-tuples-clause-wide g t c = λ i.
    let p = err_from_is_err_and c.from_residual-in_err-tuples.result c.from_residual-in_err-tuples.ensures.1 in
    let is : c.in_err-tuples.field-0.0 ≡ Wide = cc (p.1, p.2, i) in
    view_clash (snapshot_of c.args.strata.now.snapshot.now) c.args.name.now (goal_form c.args.goal.now) c.formed.ensures c.requires.view (c.in_err-tuples.ensures.wide (ap Err is))

pub giving::give_view-held_view-requires : goal.giving::give_view-held_view-requires
giving::give_view-held_view-requires g t c = record {
  goal = goal_form c.args.goal.now;
  view = c.requires.view;
  evaluated = evaluated_part (snapshot_of c.args.strata.now.snapshot.now) (goal_form c.args.goal.now) c.in_ok-tuples.tuples c.in_ok-reduced.field-0 c.in_ok-tuples.ensures.is c.in_ok-reduced.ensures.holds c.in_ok-reduced.ensures.slots c.in_ok-reduced.ensures.lines;
  normal = c.in_ok-reduced.ensures.normal;
}

pub giving::give_view-returns-in_err-tuples-clause-left : goal.giving::give_view-returns-in_err-tuples-clause-left
giving::give_view-returns-in_err-tuples-clause-left g t c = λ i.
    let cat = snapshot_of c.args.strata.now.snapshot.now in
    let n = c.args.name.now in
    let p = err_from_is_err_and c.from_residual-in_err-tuples.result c.from_residual-in_err-tuples.ensures.1 in
    let is : c.in_err-tuples.field-0.0 ≡ Wide = cc (p.1, p.2, i) in
    by_wide cat c.args.given.now c.evaluated.new.given c.args.tried.now c.begin.new.self c.evaluated.new.tried n c.in_ok-begin.ensures.ok (c.in_err-tuples.ensures.left (ap Err is))
    (view_clash cat n (goal_form c.args.goal.now) c.formed.ensures c.requires.view (c.in_err-tuples.ensures.wide (ap Err is)))

pub giving::give_view-returns-in_err-tuples-clause-noted : goal.giving::give_view-returns-in_err-tuples-clause-noted
giving::give_view-returns-in_err-tuples-clause-noted g t c = λ i. tries_it c.args.given.now c.args.tried.now c.begin.new.self c.evaluated.new.tried c.args.name.now c.in_ok-begin.ensures.ok c.in_err-tuples.ensures.tried

pub giving::give_view-returns-in_err-tuples-clause-tried : goal.giving::give_view-returns-in_err-tuples-clause-tried
giving::give_view-returns-in_err-tuples-clause-tried g t c =
    tries_begun c.args.given.now c.args.tried.now c.begin.new.self c.evaluated.new.tried c.args.name.now c.requires.absent c.in_ok-begin.ensures.ok c.in_err-tuples.ensures.tried

pub giving::give_view-returns-clause-gathered : goal.giving::give_view-returns-clause-gathered
giving::give_view-returns-clause-gathered g t c =
    by_begun (snapshot_of c.args.strata.now.snapshot.now) c.args.given.now c.evaluated.new.given c.add.new.given c.args.tried.now c.begin.new.self c.evaluated.new.tried c.args.name.now c.in_ok-begin.ensures.ok
    c.in_ok-tuples.ensures.gathered c.in_ok-add.ensures.gathered (subst (λ (x : List ℕ). has_name x c.add.new.given ≡ true) c.in_ok-view.ensures.0.name c.in_ok-add.ensures.is)

pub giving::give_view-returns-clause-begun : goal.giving::give_view-returns-clause-begun
giving::give_view-returns-clause-begun g t c = tries_it c.args.given.now c.args.tried.now c.begin.new.self c.evaluated.new.tried c.args.name.now c.in_ok-begin.ensures.ok c.in_ok-tuples.ensures.tried

pub giving::give_view-returns-clause-tried : goal.giving::give_view-returns-clause-tried
giving::give_view-returns-clause-tried g t c =
    tries_begun c.args.given.now c.args.tried.now c.begin.new.self c.evaluated.new.tried c.args.name.now c.requires.absent c.in_ok-begin.ensures.ok c.in_ok-tuples.ensures.tried

-- ---- give_other

pub giving::give_other-returns-then-is_some-clause-is : goal.giving::give_other-returns-then-is_some-clause-is
giving::give_other-returns-then-is_some-clause-is g t c =
    let cat = snapshot_of c.args.strata.now.snapshot.now in
    let n = c.args.name.now in
    let there : is_some (known cat n) ≡ true = sym (headed_known (λ h. h.now) c.heading.result (known cat n) c.heading.ensures) ∙ sym c.is_some.ensures ∙ c.if-is_some.true in
    stored_there cat None c.args.given.now n refl (relation_there cat n there c.requires.view)

pub giving::give_other-give-requires : goal.giving::give_other-give-requires
giving::give_other-give-requires g t c κs within =
    let cat = snapshot_of c.args.strata.now.snapshot.now in
    let n = c.args.name.now in
    let unknown : is_some (known cat n) ≡ false = sym (headed_known (λ h. h.now) c.heading.result (known cat n) c.heading.ensures) ∙ sym c.is_some.ensures ∙ c.if-is_some.false in
    let m = c.in_ok-inner.inner in
    let other = is_other cat c.formed.ensures n m c.in_ok-inner.ensures unknown c.requires.defined in
    let plain = inner_plain cat c.formed.ensures n m c.in_ok-inner.ensures unknown c.requires.defined in
    let same = inner_base cat c.formed.ensures n m c.in_ok-inner.ensures unknown c.requires.defined in
    let below : 9 * c.args.strata.now.level + (if is_made m then 3 else 1) < 9 * c.args.strata.now.level + (if is_made n then 2 else 0) = lower c.args.strata.now.level (is_made m) (is_made n) plain other in (
      search (rules, below),
      (
        search rules,
        (
          subst (λ x. is_some (known cat x) ≡ true) (sym same) c.requires.defined,
          (
            subst (λ x. level_with (known cat x) ≤ c.args.strata.now.level) (sym same) c.requires.level,
            (c.requires.given, subst (λ x. IsBelowTried cat c.args.given.now c.args.tried.now (λ k. level_with (known cat x) ≤ k)) (sym same) c.requires.below),
          ),
        ),
      ),
    )

pub giving::give_other-returns-in_err-give-clause-wide : goal.giving::give_other-returns-in_err-give-clause-wide
giving::give_other-returns-in_err-give-clause-wide g t c = λ i.
    let cat = snapshot_of c.args.strata.now.snapshot.now in
    let n = c.args.name.now in
    let p = err_from_is_err_and c.from_residual-in_err-give.result c.from_residual-in_err-give.ensures.1 in
    let is : c.in_err-give.field-0.0 ≡ Wide = cc (p.1, p.2, i) in
    let unknown : is_some (known cat n) ≡ false = sym (headed_known (λ h. h.now) c.heading.result (known cat n) c.heading.ensures) ∙ sym c.is_some.ensures ∙ c.if-is_some.false in
    inner_clash cat c.formed.ensures n c.in_ok-inner.inner c.in_ok-inner.ensures unknown c.requires.defined (c.in_err-give.ensures.wide (ap Err is))

pub giving::give_other-made-requires : goal.giving::give_other-made-requires
giving::give_other-made-requires g t c =
    let cat = snapshot_of c.args.strata.now.snapshot.now in
    let n = c.args.name.now in
    let unknown : is_some (known cat n) ≡ false = sym (headed_known (λ h. h.now) c.heading.result (known cat n) c.heading.ensures) ∙ sym c.is_some.ensures ∙ c.if-is_some.false in
    let m = c.in_ok-inner.inner in record {
      made = is_other cat c.formed.ensures n m c.in_ok-inner.ensures unknown c.requires.defined;
      inner = c.in_ok-inner.ensures;
      known = inner_known cat c.formed.ensures n m c.in_ok-inner.ensures unknown c.requires.defined;
      there = c.in_ok-give.ensures.is;
      given = c.in_ok-give.ensures.gathered.gathered.of;
    }

pub giving::give_other-returns-clause-is : goal.giving::give_other-returns-clause-is
giving::give_other-returns-clause-is g t c =
    given_there (snapshot_of c.args.strata.now.snapshot.now) None c.add.new.given c.args.name.now
    (subst (λ (x : List ℕ). has_name x c.add.new.given ≡ true) c.in_ok-near.ensures.is.name c.in_ok-add.ensures.is)

pub giving::give_other-returns-in_err-give-clause-left : goal.giving::give_other-returns-in_err-give-clause-left
giving::give_other-returns-in_err-give-clause-left g t c = λ i.
    let p = err_from_is_err_and c.from_residual-in_err-give.result c.from_residual-in_err-give.ensures.1 in
    let is : c.in_err-give.field-0.0 ≡ Wide = cc (p.1, p.2, i) in
    c.in_err-give.ensures.left (ap Err is)

pub giving::give_other-returns-clause-gathered : goal.giving::give_other-returns-clause-gathered
giving::give_other-returns-clause-gathered g t c =
    by_given (snapshot_of c.args.strata.now.snapshot.now) c.args.given.now c.give.new.given c.add.new.given c.args.tried.now c.give.new.tried c.in_ok-give.ensures.gathered c.in_ok-add.ensures.gathered
