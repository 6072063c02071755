use Rattle.std.proofs.Common.{rules, ◌∙◌, ◌+◌, Vec, Global, ℕ, refl, sym, ap, subst, length, get_or, take}
use Rattle.std.specs.Ordering.{nat_cmp, is_lt}
use Rattle.std.specs.Cmp.Lexicographic.{slice_cmp}
use Rattle.std.proofs.lemmas.Cmp.{nat_list_cmp_total}
use Rattle.std.proofs.lemmas.Fn.{always_returns_same}
use Rattle.std.proofs.lemmas.List.Sorted.{ranks_by}
use Rattle.ded_complement.specs.Parts.{conjs_at}
use Rattle.ded_complement.specs.Pieces.{IsAmong}
use Rattle.ded_complement.specs.declared.boxed.Boxed.{Boxed}
use Rattle.ded_complement.specs.declared.keys.KeyedPlace.{KeyedPlace}
use Rattle.ded_complement.proofs.Cutting.{taken_all}
use Rattle.ded_complement.proofs.Halved.{place_below}
use Rattle.ded_complement.proofs.SameText.{SoFar, so_far_none, so_far_keyed, so_far_other, keys_are}
use Rattle.ded_complement.proofs.keys.keys_at.Goals as goal
use Rattle.ded_complement.proofs.keys.keys_at.Goals.{in-Some+in_ok-push-in-Some, in-None+in_ok-push-in-None}

pub loop-place-init : goal.loop-place-init
loop-place-init g c = so_far_none g.T.Theory.holds c.args.slot c.args.taken.now c.in_ok-keyed.keyed.items c.new-others.result.items c.in_ok-keyed.ensures.items c.new-others.ensures.items

pub loop-place-preserved : goal.loop-place-preserved
loop-place-preserved g c =
    let h = g.T.Theory.holds in
    let s = c.args.slot in
    let taken = c.args.taken.now in
    let is = c.args.places.now in
    let k = c.loop-place.place-index in
    let b = c.index-taken-place.result in
    let below = place_below (length taken) is k c.loop-place-test.true c.requires in
    let x = c.loop-place.invariant in
    elim c.match-fixing.branch [
      | in-Some+in_ok-push-in-Some w ↦ subst (λ (v : Vec (KeyedPlace _) Global). SoFar h s taken (conjs_at taken (take (k + 1) is)) v.items c.match-fixing.others.items) (sym w.keyed-is)
          (subst (λ (v : Vec ℕ Global). SoFar h s taken (conjs_at taken (take (k + 1) is)) w.push.new.self.items v.items) (sym w.others-is)
          (so_far_keyed h s taken is k b c.loop-place-test.true below c.index-taken-place.is c.loop-place.keyed.items w.push.new.self.items c.loop-place.others.items
          (record { text = w.in-Some.text; atom = w.in-Some.atom; place = get_or is k 0 }) w.in_ok-push-in-Some.ensures.items refl
          (subst (λ xs. IsAmong xs w.in-Some.atom.now) (c.deref.ensures.value ∙ ap (λ (z : Boxed g.row.T-Atom.Denot). z.conj.items) (sym c.index-taken-place.is)) w.in-Some.ensures.0) w.in-Some.ensures.1 x))
      | in-None+in_ok-push-in-None w ↦ subst (λ (v : Vec (KeyedPlace _) Global). SoFar h s taken (conjs_at taken (take (k + 1) is)) v.items c.match-fixing.others.items) (sym w.keyed-is)
          (subst (λ (v : Vec ℕ Global). SoFar h s taken (conjs_at taken (take (k + 1) is)) c.loop-place.keyed.items v.items) (sym w.others-is)
          (so_far_other h s taken is k b c.loop-place-test.true below c.index-taken-place.is c.loop-place.keyed.items c.loop-place.others.items w.push-in-None.new.self.items w.in_ok-push-in-None.ensures.items x))
    ]

pub returns : goal.returns
returns g c =
    keys_are g.T.Theory.holds c.args.taken.now (conjs_at c.args.taken.now c.args.places.now) c.loop-place.keyed.items (record { slot = c.args.slot; keyed = c.sort_unstable_by.new.self; others = c.loop-place.others })
    (subst (λ is. SoFar g.T.Theory.holds c.args.slot c.args.taken.now (conjs_at c.args.taken.now is) c.loop-place.keyed.items c.loop-place.others.items) (taken_all c.args.places.now c.loop-place.place-index c.loop-place-test.false) c.loop-place.invariant)
    c.sort_unstable_by.ensures.permutation
    (c.sort_unstable_by.ensures.sorted (λ a b. is_lt (slice_cmp nat_cmp a.text.now b.text.now)) (ranks_by nat_list_cmp_total (λ e. e.text.now)) (always_returns_same _ _ _ (λ a r f h. search rules)))
