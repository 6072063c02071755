use Rattle.ded_relation.proofs.Numbers.{copied_next}
use Rattle.ded_relation.proofs.copying.copy_tuples.Goals as goal

pub loop-number-preserved-in_ok-insert : goal.loop-number-preserved-in_ok-insert
loop-number-preserved-in_ok-insert c =
    copied_next c.args.tuples.now.entries c.loop-number.copies.entries _ _ _ _ _ _ c.into_iter-number-iterator.ensures.into_iter_gives.5 c.loop-number.invariant c.in-Some.ensures.steps
    c.in_ok-copy.ensures c.in_ok-insert.ensures.entries

pub loop-number-preserved : goal.loop-number-preserved
loop-number-preserved c =
    copied_next c.args.tuples.now.entries c.loop-number.copies.entries _ _ _ _ _ _ c.into_iter-number-iterator.ensures.into_iter_gives.5 c.loop-number.invariant c.in-Some.ensures.steps
    c.in_ok-copy.ensures c.in_ok-insert.ensures.entries
