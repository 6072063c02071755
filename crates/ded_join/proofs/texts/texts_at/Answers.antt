use Rattle.std.proofs.Common.{rules, ◌≡◌, ◌∙◌, [], ◌+◌, ◌<◌, Vec, Global, ℕ, refl, sym, ap, subst, length, get_or}
use Rattle.std.specs.Ordering.{nat_cmp, is_lt}
use Rattle.std.specs.Cmp.Lexicographic.{slice_cmp}
use Rattle.std.proofs.lemmas.Cmp.{nat_list_cmp_total}
use Rattle.std.proofs.lemmas.Fn.{always_returns_same}
use Rattle.std.proofs.lemmas.List.Sorted.{ranks_by}
use Rattle.ded_complement.specs.Pieces.{IsAmong}
use Rattle.ded_join.specs.declared.texts.TextPlace.{TextPlace}
use Rattle.ded_join.proofs.Joined.{items_at, conjs_count}
use Rattle.ded_join.proofs.OtherTexts.{SoFar, so_far_none, so_far_placed, so_far_other, placed_at, texts_are}
use Rattle.ded_join.proofs.texts.texts_at.Goals as goal
use Rattle.ded_join.proofs.texts.texts_at.Goals.{in-Some+in_ok-push-in-Some, in-None+in_ok-push-in-None}

pub loop-place-init : goal.loop-place-init
loop-place-init g c = so_far_none g.T.Theory.holds c.args.slot c.args.list.now c.in_ok-placed.placed.items c.new-others.result.items c.in_ok-placed.ensures.items c.new-others.ensures.items

pub loop-place-preserved : goal.loop-place-preserved
loop-place-preserved g c =
    let h = g.T.Theory.holds in
    let s = c.args.slot in
    let cs = c.args.list.now in
    let i = c.loop-place.place in
    let x = c.loop-place.invariant in
    let long = sym (conjs_count c.list-conjs.result.now) ∙ ap length c.list-conjs.ensures.list in
    let within : i < length c.list-conjs.result.now = search rules in
    let inside : i < length cs = subst (λ n. i < n) long within in
    let conj = items_at c.list-conjs.result.now i c.index-conjs-place.result c.index-conjs-place.is within ∙ ap (λ ds. get_or ds i []) c.list-conjs.ensures.list in
    elim c.match-fixing.branch [
      | in-Some+in_ok-push-in-Some w ↦ subst (λ (v : Vec TextPlace Global). SoFar h s cs (i + 1) v.items c.match-fixing.others.items) (sym w.placed-is)
          (subst (λ (v : Vec ℕ Global). SoFar h s cs (i + 1) w.push.new.self.items v.items) (sym w.others-is) (so_far_placed h s cs i c.loop-place.placed.items w.push.new.self.items c.loop-place.others.items (record { text = w.in-Some.text; place = i }) w.in_ok-push-in-Some.ensures.items refl
          (placed_at h s cs i (record { text = w.in-Some.text; place = i }) c.index-conjs-place.result.items w.in-Some.field-0-0.now inside refl conj (subst (λ xs. IsAmong xs w.in-Some.field-0-0.now) c.deref.ensures.value w.in-Some.ensures.0) w.in-Some.ensures.1) x))
      | in-None+in_ok-push-in-None w ↦ subst (λ (v : Vec TextPlace Global). SoFar h s cs (i + 1) v.items c.match-fixing.others.items) (sym w.placed-is)
          (subst (λ (v : Vec ℕ Global). SoFar h s cs (i + 1) c.loop-place.placed.items v.items) (sym w.others-is) (so_far_other h s cs i c.loop-place.placed.items c.loop-place.others.items w.push-in-None.new.self.items i w.in_ok-push-in-None.ensures.items refl inside x))
    ]

pub returns : goal.returns
returns g c =
    let same : c.loop-place.place ≡ length c.args.list.now = (let end : c.loop-place.place ≡ length c.list-conjs.result.now = search rules in end ∙ sym (conjs_count c.list-conjs.result.now) ∙ ap length c.list-conjs.ensures.list) in
    texts_are g.T.Theory.holds c.args.list.now c.loop-place.placed.items (record { slot = c.args.slot; placed = c.sort_unstable_by.new.self; others = c.loop-place.others })
    (subst (λ n. SoFar g.T.Theory.holds c.args.slot c.args.list.now n c.loop-place.placed.items c.loop-place.others.items) same c.loop-place.invariant)
    c.sort_unstable_by.ensures.permutation
    (c.sort_unstable_by.ensures.sorted (λ a b. is_lt (slice_cmp nat_cmp a.text.now b.text.now)) (ranks_by nat_list_cmp_total (λ e. e.text.now)) (always_returns_same _ _ _ (λ a r f h. search rules)))
