use Rattle.std.proofs.Common.{◌+◌, ◌∙◌, ◌++◌, [], refl, ap, sym, subst, take, length}
use Rattle.std.proofs.lemmas.Result.{IfOk-weaker}
use Rattle.ded_complement.specs.Boxed.{conjs_in}
use Rattle.ded_complement.specs.Parts.{conjs_at, ArePlaces}
use Rattle.ded_complement.proofs.Boxes.{normal_in}
use Rattle.ded_complement.proofs.Cutting.{Outside, taken_all, outside_none, outside_more}
use Rattle.ded_complement.proofs.Halved.{place_below, conjs_at-to, carved_near}
use Rattle.ded_complement.proofs.carving.carve_in_turn.Goals as goal

pub loop-place-init : goal.loop-place-init
loop-place-init g c = record {
  outside = outside_none g.T.Theory.holds g.T.Theory.mentions g.T.Theory.lines g.T.Theory.cell c.args.part.piece.conj.items [] (conjs_in c.in_ok-pieces.pieces.items) refl c.in_ok-pieces.ensures.more;
  boxed = c.in_ok-pieces.ensures.boxed c.args.slots.now c.requires.part.boxed;
}

pub loop-place-preserved : goal.loop-place-preserved
loop-place-preserved g c =
    let taken = c.args.taken.now in
    let places = c.deref-place-items.result.now in
    let k = c.loop-place.place-index in
    let conj = c.index-taken-place.result in
    let below = place_below (length taken) places k c.loop-place-test.true (subst (ArePlaces taken) (sym c.deref-place-items.ensures.value) c.requires.part.places) in
    record {
      outside = outside_more g.T.Theory.holds g.T.Theory.mentions g.T.Theory.lines g.T.Theory.cell c.args.part.piece.conj.items (conjs_at taken (take k places)) (conjs_at taken (take (k + 1) places)) (conjs_in c.loop-place.pieces.items) (conjs_in c.in_ok-pieces-2.pieces.items)
          conj.conj.items conj.conj.items (conjs_at-to taken places k conj c.loop-place-test.true below c.index-taken-place.is) refl c.loop-place.invariant.outside c.in_ok-pieces-2.ensures.is;
      boxed = c.in_ok-pieces-2.ensures.boxed;
    }

pub unboxed-requires : goal.unboxed-requires
unboxed-requires g c = normal_in g.T.Theory.holds g.T.Theory.normal c.args.slots.now c.loop-place.pieces.items c.loop-place.invariant.boxed

pub returns : goal.returns
returns g c =
    let h = g.T.Theory.holds in
    let m = g.T.Theory.mentions in
    let l = g.T.Theory.lines in
    let cell = g.T.Theory.cell in
    let taken = c.args.taken.now in
    let piece = c.args.part.piece.conj.items in
    let places = c.args.part.near.items in
    let done = subst (λ is. Outside h m l cell piece (conjs_at taken is) (conjs_in c.loop-place.pieces.items)) (taken_all c.deref-place-items.result.now c.loop-place.place-index c.loop-place-test.false ∙ c.deref-place-items.ensures.value) c.loop-place.invariant.outside in
    IfOk-weaker c.append.result _ _ (λ x e. carved_near h m l cell taken piece places c.args.out.now c.append.new.self (conjs_in c.loop-place.pieces.items) (e ∙ ap (λ cs. c.args.out.now ++ cs) c.in_ok-unboxed.ensures) c.requires.part.near done) c.append.ensures
