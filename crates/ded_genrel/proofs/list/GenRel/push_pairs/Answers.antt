use Rattle.std.proofs.Common.{◌++◌, ◌∙◌, ap, sym, subst}
use Rattle.std.specs.List.{AllByRecursion}
use Rattle.ded_genrel.proofs.Items.{normal-at, all-append, paired-more}
use Rattle.ded_genrel.proofs.list.GenRel.push_pairs.Goals as goal

pub push-requires : goal.push-requires
push-requires g c = record {
  normal = subst (AllByRecursion g.T.Theory.normal) (sym (c.in_ok-both_conjs.ensures ∙ ap (λ xs. c.args.conj.now ++ xs) c.deref.ensures.value))
      (all-append g.T.Theory.normal c.args.conj.now c.more-item.result.items c.requires.normal (normal-at g.T.Theory.normal c.list-more-items.result.now c.loop-more.more-index c.more-item.result c.loop-more-test.true c.more-item.is c.list-more-items.ensures.normal));
}

pub loop-more-preserved : goal.loop-more-preserved
loop-more-preserved g c =
    paired-more c.args.self.now c.loop-more.self c.push.new.self c.args.conj.now c.list-more-items.result.now c.loop-more.more-index c.more-item.result c.in_ok-both_conjs.field-0.items c.loop-more-test.true c.more-item.is
    (c.in_ok-both_conjs.ensures ∙ ap (λ xs. c.args.conj.now ++ xs) c.deref.ensures.value) c.loop-more.invariant c.in_ok-push.ensures.pushed
