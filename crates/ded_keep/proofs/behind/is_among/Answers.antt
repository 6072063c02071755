use Rattle.ded_keep.proofs.Covered.{hold-at}
use Rattle.ded_keep.proofs.behind.is_among.Goals as goal

pub returns-then-branch : goal.returns-then-branch
returns-then-branch g c = λ e p i h. hold-at c.args.list.now c.loop-other.other-index c.other-item.result c.loop-other-test.true c.other-item.is p (c.in_ok-covers.ensures c.if-branch.true p i h)
