use Rattle.std.proofs.Common.{[], ◌∷◌, ◌++◌, ◌∙◌, ap, sym, subst, take}
use Rattle.std.specs.List.{AllByRecursion}
use Rattle.ded_model.specs.Cell.{conj_holds}
use Rattle.ded_genrel.specs.Lists.{conjs_of}
use Rattle.ded_genrel.specs.Operations.{IsMeet}
use Rattle.ded_genrel.proofs.Items.{normal-at, conjs_to, conjs_done}
use Rattle.ded_eval.specs.Inside.{IsMeetInside}
use Rattle.ded_eval.proofs.Inside.{meet_inside_none, meet_inside_more}
use Rattle.ded_eval.proofs.across.pairs_by.Goals as goal

pub loop-conj-init : goal.loop-conj-init
loop-conj-init g c =
    subst (IsMeetInside g.T.Theory.holds g.T.Theory.mentions g.T.Theory.lines (conj_holds g.T.Theory.holds c.args.step.now.across.now) [] c.args.next.now) (sym c.new-out.ensures)
    (meet_inside_none g.T.Theory.holds g.T.Theory.mentions g.T.Theory.lines (conj_holds g.T.Theory.holds c.args.step.now.across.now) c.args.next.now)

pub alone-requires : goal.alone-requires
alone-requires g c =
    subst (AllByRecursion g.T.Theory.normal) (sym c.deref.ensures.value) (normal-at g.T.Theory.normal c.list-conj-items.result.now c.loop-conj.conj-index c.conj-item.result c.loop-conj-test.true c.conj-item.is c.list-conj-items.ensures.normal)

pub loop-conj-preserved : goal.loop-conj-preserved
loop-conj-preserved g c =
    let h = g.T.Theory.holds in
    let m = g.T.Theory.mentions in
    let l = g.T.Theory.lines in
    let items = c.list-conj-items.result.now in
    let i = c.loop-conj.conj-index in
    let one = c.conj-item.result.items in
    let inside = conj_holds h c.args.step.now.across.now in
    let same = c.in_ok-one.ensures ∙ ap (λ atoms. atoms ∷ []) c.deref.ensures.value in
    subst (λ xs. IsMeetInside h m l inside xs c.args.next.now c.append.new.self) (sym (conjs_to items i c.conj-item.result c.loop-conj-test.true c.conj-item.is))
    (subst (IsMeetInside h m l inside (conjs_of (take i items) ++ one ∷ []) c.args.next.now) (sym c.in_ok-append.ensures)
    (meet_inside_more h m l inside (conjs_of (take i items)) (one ∷ []) c.args.next.now c.in_ok-pairs.pairs c.loop-conj.out c.in_ok-kept_inside.field-0 c.loop-conj.invariant
    (subst (λ xs. IsMeet h m l xs c.args.next.now c.in_ok-pairs.pairs) same c.in_ok-pairs.ensures.is) c.in_ok-kept_inside.ensures))

pub returns : goal.returns
returns g c =
    subst (λ xs. IsMeetInside g.T.Theory.holds g.T.Theory.mentions g.T.Theory.lines (conj_holds g.T.Theory.holds c.args.step.now.across.now) xs c.args.next.now c.loop-conj.out)
    (conjs_done c.list-conj-items.result.now c.loop-conj.conj-index c.loop-conj-test.false ∙ c.list-conj-items.ensures.list) c.loop-conj.invariant
