use Rattle.std.proofs.Common.{◌∙◌, ◌<◌, ◌+◌, ◌-◌, ◌^◌, min, ℕ, List, ap, ap₂, sym, subst, length, take}
use Rattle.std.specs.List.{AllByRecursion}
use Rattle.ded_genrel.specs.Lists.{conjs_of}
use Rattle.ded_genrel.proofs.Items.{normal-at, conjs_to, conjs_done}
use Rattle.ded_genrel.specs.Rounds.{IsBoxOf}
use Rattle.ded_join.specs.Picks.{picked}
use Rattle.ded_join.specs.Taken.{AreTakenAfter}
use Rattle.ded_join.proofs.Joined.{places, picked_part}
use Rattle.ded_join.proofs.Nearness.{picked_near}
use Rattle.ded_join.proofs.Kept.{count_picked}
use Rattle.ded_join.proofs.Taken.{IsTakenSoFar, so_far_none, so_far_more, so_far_done}
use Rattle.ded_join.proofs.near.near_by.Goals as goal

pub loop-conj-init : goal.loop-conj-init
loop-conj-init g c = so_far_none g.T.Theory.holds g.T.Theory.mentions g.T.Theory.lines c.args.taken c.args.b.now.slots.now c.args.b.now.list.now c.new-out.result c.args.met.now c.new-out.ensures c.type_inv.count.fits

pub box_round-requires-clause-normal : goal.box_round-requires-clause-normal
box_round-requires-clause-normal g c =
    subst (AllByRecursion g.T.Theory.normal) (sym c.deref.ensures.value) (normal-at g.T.Theory.normal c.list-conj-items.result.now c.loop-conj.conj-index c.conj-item.result c.loop-conj-test.true c.conj-item.is c.list-conj-items.ensures.normal)

pub push_near-requires-clause-normal : goal.push_near-requires-clause-normal
push_near-requires-clause-normal g c =
    subst (AllByRecursion g.T.Theory.normal) (sym c.deref-in-loop-conj.ensures.value) (normal-at g.T.Theory.normal c.list-conj-items.result.now c.loop-conj.conj-index c.conj-item.result c.loop-conj-test.true c.conj-item.is c.list-conj-items.ensures.normal)

pub push_near-requires-clause-places : goal.push_near-requires-clause-places
push_near-requires-clause-places g c =
    subst (AllByRecursion (λ j. j < length c.args.b.now.list.now)) (sym c.deref-in-loop-conj-2.ensures.value)
    (places g.T.Theory.holds g.T.Theory.mentions g.T.Theory.lines c.args.b.now.slots.now c.deref.result.now c.args.b.now.list.now c.args.b.now.index.now c.in_ok-box_round.field-0 c.in_ok-near.near.items c.requires.index c.in_ok-box_round.ensures c.in_ok-near.ensures)

pub loop-conj-preserved : goal.loop-conj-preserved
loop-conj-preserved g c =
    let h = g.T.Theory.holds in
    let m = g.T.Theory.mentions in
    let l = g.T.Theory.lines in
    let x = c.conj-item.result in
    let b = c.args.b.now.list.now in
    let ss = c.args.b.now.slots.now in
    let js = c.in_ok-near.near.items in
    let done = conjs_of (take c.loop-conj.conj-index c.list-conj-items.result.now) in
    let added = picked x.items b js in
    let box = subst (λ atoms. IsBoxOf h m l ss atoms c.in_ok-box_round.field-0) c.deref.ensures.value c.in_ok-box_round.ensures in
    let same = ap₂ (λ (atoms : List _) (ks : List ℕ). picked atoms b ks) c.deref-in-loop-conj.ensures.value c.deref-in-loop-conj-2.ensures.value in
    let kept = subst (λ all. AreTakenAfter c.args.taken h m l all c.loop-conj.out c.push_near.new.out) same c.in_ok-push_near.ensures in
    let count = count_picked x.items b js c.loop-conj.count c.saturating_add-count.result (c.saturating_add-count.ensures ∙ ap (λ n. min (c.loop-conj.count + n) (2 ^ 64 - 1)) (c.len.ensures ∙ c.in_ok-near.near.ok.0)) in
    subst (λ xs. IsTakenSoFar h m l c.args.taken ss xs b c.push_near.new.out c.args.met.now c.saturating_add-count.result) (sym (conjs_to c.list-conj-items.result.now c.loop-conj.conj-index x c.loop-conj-test.true c.conj-item.is))
    (so_far_more h m l c.args.taken ss done b c.loop-conj.out c.push_near.new.out x.items added c.args.met.now c.loop-conj.count c.saturating_add-count.result c.loop-conj.invariant
    (picked_part h m l ss x.items b c.args.b.now.index.now c.in_ok-box_round.field-0 js c.requires.index box c.in_ok-near.ensures)
    (picked_near h m l ss c.requires.some x.items b c.in_ok-box_round.field-0 box c.args.b.now.index.now js c.requires.index c.in_ok-near.ensures) kept count)

pub returns : goal.returns
returns g c =
    so_far_done g.T.Theory.holds g.T.Theory.mentions g.T.Theory.lines c.args.taken c.args.b.now.slots.now c.args.a.now c.args.b.now.list.now c.loop-conj.out c.args.met.now c.loop-conj.count
    (subst (λ xs. IsTakenSoFar g.T.Theory.holds g.T.Theory.mentions g.T.Theory.lines c.args.taken c.args.b.now.slots.now xs c.args.b.now.list.now c.loop-conj.out c.args.met.now c.loop-conj.count) (conjs_done c.list-conj-items.result.now c.loop-conj.conj-index c.loop-conj-test.false ∙ c.list-conj-items.ensures.list) c.loop-conj.invariant)
