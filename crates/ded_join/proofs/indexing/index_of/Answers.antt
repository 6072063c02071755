use Rattle.std.proofs.Common.{◌∙◌, ◌<◌, ◌^◌, ap, sym, subst, length, take}
use Rattle.std.specs.List.{AllByRecursion}
use Rattle.std.proofs.lemmas.Result.{IfOk-weaker}
use Rattle.ded_genrel.specs.Lists.{conjs_of}
use Rattle.ded_genrel.proofs.Items.{conjs_to, conjs_done, normal-at}
use Rattle.ded_genrel.specs.Rounds.{IsBoxOf}
use Rattle.ded_join.specs.Picks.{AreBoxesOf}
use Rattle.ded_join.proofs.Indexed.{boxes_push, boxes_length, index_is}
use Rattle.ded_join.proofs.indexing.index_of.Goals as goal

pub box_round-requires-clause-normal : goal.box_round-requires-clause-normal
box_round-requires-clause-normal g c =
    subst (AllByRecursion g.T.Theory.normal) (sym c.deref.ensures.value) (normal-at g.T.Theory.normal c.list-conj-items.result.now c.loop-conj.conj-index c.conj-item.result c.loop-conj-test.true c.conj-item.is c.list-conj-items.ensures.normal)

pub loop-conj-preserved : goal.loop-conj-preserved
loop-conj-preserved g c =
    let h = g.T.Theory.holds in
    let m = g.T.Theory.mentions in
    let l = g.T.Theory.lines in
    let ss = c.args.slots.now in
    let done = conjs_of (take c.loop-conj.conj-index c.list-conj-items.result.now) in
    let round = subst (λ atoms. IsBoxOf h m l ss atoms c.in_ok-box_round.field-0) c.deref.ensures.value c.in_ok-box_round.ensures in
    subst (λ cs. AreBoxesOf h m l ss cs c.push.new.self.items) (sym (conjs_to c.list-conj-items.result.now c.loop-conj.conj-index c.conj-item.result c.loop-conj-test.true c.conj-item.is))
    (subst (AreBoxesOf h m l ss _) (sym c.in_ok-push.ensures.items) (boxes_push h m l ss done c.loop-conj.boxes.items c.conj-item.result.items c.in_ok-box_round.field-0 c.loop-conj.invariant round))

pub build-requires : goal.build-requires
build-requires g c =
    let all = subst (λ cs. AreBoxesOf g.T.Theory.holds g.T.Theory.mentions g.T.Theory.lines c.args.slots.now cs c.loop-conj.boxes.items) (conjs_done c.list-conj-items.result.now c.loop-conj.conj-index c.loop-conj-test.false ∙ c.list-conj-items.ensures.list) c.loop-conj.invariant in
    subst (λ n. n < 2 ^ 32) (boxes_length g.T.Theory.holds g.T.Theory.mentions g.T.Theory.lines c.args.slots.now c.args.list.now c.loop-conj.boxes.items all ∙ ap length (sym c.deref-2.ensures.value)) c.requires.few

pub returns : goal.returns
returns g c =
    let all = subst (λ cs. AreBoxesOf g.T.Theory.holds g.T.Theory.mentions g.T.Theory.lines c.args.slots.now cs c.loop-conj.boxes.items) (conjs_done c.list-conj-items.result.now c.loop-conj.conj-index c.loop-conj-test.false ∙ c.list-conj-items.ensures.list) c.loop-conj.invariant in
    IfOk-weaker c.build.result _ _ (λ x p. index_is g.T.Theory.holds g.T.Theory.mentions g.T.Theory.lines c.args.slots.now c.args.list.now c.deref-2.result.now x (subst (AreBoxesOf g.T.Theory.holds g.T.Theory.mentions g.T.Theory.lines c.args.slots.now c.args.list.now) (sym c.deref-2.ensures.value) all) p) c.build.ensures
