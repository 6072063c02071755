use Rattle.std.proofs.Common.{◌++◌, sym, subst, arith, refl}
use Rattle.std.specs.List.Sorted.{IsPermutation}
use Rattle.std.proofs.lemmas.List.{take_all}
use Rattle.std.proofs.lemmas.List.Sorted.{IsPermutation-trans, IsPermutation-append_left, IsPermutation-push_more}
use Rattle.ded_index.specs.Entries.{numbered}
use Rattle.ded_index.specs.Trees.{entries_of}
use Rattle.ded_index.proofs.Kept.{numbered_more}
use Rattle.ded_index.proofs.index.BoxIndex.build.Goals as goal

pub loop-i-preserved : goal.loop-i-preserved
loop-i-preserved c = record {
  full = c.in_ok-add.ensures.full;
  sound = c.in_ok-add.ensures.sound;
  apart = c.in_ok-add.ensures.apart;
  entries = subst (λ es. IsPermutation es (entries_of c.add.new.tree.items ++ c.add.new.apart.items)) (sym (numbered_more c.args.boxes.now c.loop-i.i c.index-boxes-i.result _ (omega arith) c.index-boxes-i.is refl c.in_ok-copy.ensures))
      (IsPermutation-push_more _ _ _ _ c.loop-i.invariant.entries c.in_ok-add.ensures.added);
}

pub returns : goal.returns
returns c =
    IsPermutation-trans _ _ _ (subst (λ bs. IsPermutation (numbered 0 bs) (entries_of c.loop-i.tree.items ++ c.loop-i.apart.items)) (take_all c.loop-i.i c.args.boxes.now (omega arith)) c.loop-i.invariant.entries)
    (IsPermutation-append_left c.loop-i.apart.items _ _ c.arrange.ensures.entries)
