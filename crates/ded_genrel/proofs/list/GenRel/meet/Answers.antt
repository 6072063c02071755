use Rattle.std.proofs.Common.{◌++◌, ◌∙◌, ap, sym, subst}
use Rattle.std.specs.List.{AllByRecursion}
use Rattle.ded_genrel.specs.Lists.{pairs, pairs_with}
use Rattle.ded_genrel.proofs.Items.{conjs_done, normal-at, met-more}
use Rattle.ded_genrel.proofs.Laws.{meet_is}
use Rattle.ded_genrel.proofs.list.GenRel.meet.Goals as goal

pub push_pairs-requires : goal.push_pairs-requires
push_pairs-requires g c = record {
  normal = subst (AllByRecursion g.T.Theory.normal) (sym c.deref.ensures.value) (normal-at g.T.Theory.normal c.list-conj-items.result.now c.loop-conj.conj-index c.conj-item.result c.loop-conj-test.true c.conj-item.is c.list-conj-items.ensures.normal);
}

pub loop-conj-preserved : goal.loop-conj-preserved
loop-conj-preserved g c =
    met-more c.loop-conj.out c.push_pairs.new.self c.args.other.now c.list-conj-items.result.now c.loop-conj.conj-index c.conj-item.result c.loop-conj-test.true c.conj-item.is c.loop-conj.invariant
    (c.in_ok-push_pairs.ensures ∙ ap (λ xs. c.loop-conj.out ++ pairs_with xs c.args.other.now) c.deref.ensures.value)

pub returns-clause-is : goal.returns-clause-is
returns-clause-is g c =
    meet_is g.T.Theory.holds g.T.Theory.mentions g.T.Theory.lines c.args.self.now c.args.other.now c.loop-conj.out
    (c.loop-conj.invariant ∙ ap (λ xs. pairs xs c.args.other.now) (conjs_done c.list-conj-items.result.now c.loop-conj.conj-index c.loop-conj-test.false ∙ c.list-conj-items.ensures.list))
