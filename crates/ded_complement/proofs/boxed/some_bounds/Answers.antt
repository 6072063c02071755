use Rattle.std.proofs.Common.{sym, subst}
use Rattle.std.specs.List.{AllByRecursion}
use Rattle.ded_genrel.proofs.Items.{normal-at}
use Rattle.ded_complement.proofs.boxed.some_bounds.Goals as goal

pub bounds-requires-clause-normal : goal.bounds-requires-clause-normal
bounds-requires-clause-normal g c =
    subst (AllByRecursion g.T.Theory.normal) (sym c.deref.ensures.value) (normal-at g.T.Theory.normal c.args.conjs.now c.loop-conj.conj-index c.conj-item.result c.loop-conj-test.true c.conj-item.is c.requires.normal)
