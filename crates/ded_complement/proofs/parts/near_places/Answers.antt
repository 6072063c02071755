use Rattle.std.proofs.Common.{◌+◌, ◌<◌, ◌∙◌, List, Vec, Global, ℕ, length, sym, subst, take, get_or, true≢false}
use Rattle.ded_num.proofs.Tests.{all-at}
use Rattle.ded_model.specs.declared.slot.Slot.{Slot}
use Rattle.ded_box.specs.Boxes.{Shared}
use Rattle.ded_genrel.proofs.Apart.{apart_boxes}
use Rattle.ded_genrel.proofs.Items.{all-push}
use Rattle.ded_complement.specs.declared.boxed.Boxed.{Boxed}
use Rattle.ded_complement.specs.Boxed.{IsBoxed, AreBoxed}
use Rattle.ded_complement.specs.Parts.{conjs_at, ArePlaces, IsSameOutside}
use Rattle.ded_complement.proofs.Cutting.{taken_all}
use Rattle.ded_complement.proofs.Halved.{place_below, conjs_at-push, conjs_at-to, near_more, near_passed}
use Rattle.ded_complement.proofs.parts.near_places.Goals as goal
use Rattle.ded_complement.proofs.parts.near_places.Goals.{then-meets+in_ok-push, else-meets}

pub loop-place-preserved : goal.loop-place-preserved
loop-place-preserved g c =
    let h = g.T.Theory.holds in
    let n = g.T.Theory.normal in
    let piece = c.args.piece.now in
    let taken = c.args.taken.now in
    let k = c.loop-place.place-index in
    let conj = c.index-taken-place.result in
    let below = place_below (length taken) c.args.places.now k c.loop-place-test.true c.requires in
    let to = conjs_at-to taken c.args.places.now k conj c.loop-place-test.true below c.index-taken-place.is in
    elim c.if-meets.branch [
      | then-meets+in_ok-push w ↦ subst (λ (v : Vec ℕ Global). record {
        places : ArePlaces taken v.items;
        near : (ss : List Slot) → IsBoxed h n ss piece → AreBoxed h n ss taken → IsSameOutside h piece.conj.items (conjs_at taken (take (k + 1) c.args.places.now)) (conjs_at taken v.items);
      }) (sym w.near-is) (record {
        places = subst (ArePlaces taken) (sym w.in_ok-push.ensures.items) (all-push (λ i. i < length taken) c.loop-place.near.items (get_or c.args.places.now k 0) c.loop-place.invariant.places below);
        near = λ ss b bs. near_more h g.T.Theory.mentions g.T.Theory.lines g.T.Theory.cell piece.conj.items (conjs_at taken (take k c.args.places.now)) (conjs_at taken c.loop-place.near.items) (conjs_at taken (take (k + 1) c.args.places.now)) (conjs_at taken w.push.new.self.items)
            conj.conj.items to (conjs_at-push taken c.loop-place.near.items w.push.new.self.items (get_or c.args.places.now k 0) conj w.in_ok-push.ensures.items below c.index-taken-place.is) (c.loop-place.invariant.near ss b bs);
      })
      | else-meets w ↦ subst (λ (v : Vec ℕ Global). record {
        places : ArePlaces taken v.items;
        near : (ss : List Slot) → IsBoxed h n ss piece → AreBoxed h n ss taken → IsSameOutside h piece.conj.items (conjs_at taken (take (k + 1) c.args.places.now)) (conjs_at taken v.items);
      }) (sym w.near-is) (record {
        places = c.loop-place.invariant.places;
        near = λ ss b bs. near_passed h g.T.Theory.mentions g.T.Theory.lines g.T.Theory.cell piece.conj.items (conjs_at taken (take k c.args.places.now)) (conjs_at taken c.loop-place.near.items) (conjs_at taken (take (k + 1) c.args.places.now)) conj.conj.items to
            (apart_boxes h ss piece.conj.items conj.conj.items piece.bounds conj.bounds b.round (all-at (IsBoxed h n ss) taken (get_or c.args.places.now k 0) conj below c.index-taken-place.is bs).round (λ x. true≢false (sym (c.meets.ensures.shared.1 (subst (λ (z : Boxed g.row.T-Atom.Denot). Shared piece.bounds z.bounds) c.index-taken-place.is x)) ∙ w.if-meets.false)))
            (c.loop-place.invariant.near ss b bs);
      })
    ]

pub returns-clause-near : goal.returns-clause-near
returns-clause-near g c = λ ss b bs. subst (λ is. IsSameOutside g.T.Theory.holds c.args.piece.now.conj.items (conjs_at c.args.taken.now is) (conjs_at c.args.taken.now c.loop-place.near.items))
    (taken_all c.args.places.now c.loop-place.place-index c.loop-place-test.false) (c.loop-place.invariant.near ss b bs)
