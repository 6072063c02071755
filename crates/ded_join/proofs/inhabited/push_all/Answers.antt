use Rattle.std.proofs.Common.{◌++◌, ◌∷◌, [], ap, sym, subst}
use Rattle.std.specs.List.{AllByRecursion}
use Rattle.ded_genrel.proofs.Items.{normal-at}
use Rattle.ded_join.specs.declared.near.Taken.TheVariants.{Inhabited}
use Rattle.ded_join.proofs.Taken.{taken_to}
use Rattle.ded_join.proofs.inhabited.push_all.Goals as goal

pub push_both-requires-clause-second : goal.push_both-requires-clause-second
push_both-requires-clause-second g c =
    subst (AllByRecursion g.T.Theory.normal) (sym c.deref.ensures.value) (normal-at g.T.Theory.normal c.list-more-items.result.now c.loop-more.more-index c.more-item.result c.loop-more-test.true c.more-item.is c.list-more-items.ensures.normal)

pub loop-more-preserved : goal.loop-more-preserved
loop-more-preserved g c =
    taken_to g.T.Theory.holds g.T.Theory.mentions g.T.Theory.lines Inhabited c.args.conj.now c.list-more-items.result.now c.loop-more.more-index c.more-item.result ((c.args.conj.now ++ c.deref.result.now) ∷ []) c.args.out.now c.loop-more.out c.push_both.new.out
    c.loop-more-test.true c.more-item.is (ap (λ ys. (c.args.conj.now ++ ys) ∷ []) c.deref.ensures.value) c.loop-more.invariant c.in_ok-push_both.ensures
