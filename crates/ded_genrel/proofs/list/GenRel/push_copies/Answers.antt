use Rattle.std.proofs.Common.{◌∙◌, sym, subst}
use Rattle.std.specs.List.{AllByRecursion}
use Rattle.ded_genrel.proofs.Items.{normal-at}
use Rattle.ded_genrel.proofs.list.GenRel.push_copies.Goals as goal

pub push-requires : goal.push-requires
push-requires g c = record {
  normal = subst (AllByRecursion g.T.Theory.normal) (sym (c.in_ok-copy_conj.ensures ∙ c.deref.ensures.value)) (normal-at g.T.Theory.normal c.args.conjs.now c.loop-conj.conj-index c.conj-item.result c.loop-conj-test.true c.conj-item.is c.requires.normal);
}
