use Rattle.std.proofs.Common.{[], sym, subst}
use Rattle.ded_keep.specs.Remaining.{IsParted}
use Rattle.ded_keep.proofs.Leaving.{parted_none, parted_apart, parted_near}
use Rattle.ded_keep.proofs.removing.part_kept.Goals as goal

pub loop-tuple-init : goal.loop-tuple-init
loop-tuple-init g c =
    subst (λ ts. IsParted c.args.lost.now [] ts c.new-near.result.items) (sym c.new-apart.ensures.items) (subst (IsParted c.args.lost.now [] []) (sym c.new-near.ensures.items) (parted_none c.args.lost.now))

pub loop-tuple-preserved-in-Continue-branch-2 : goal.loop-tuple-preserved-in-Continue-branch-2
loop-tuple-preserved-in-Continue-branch-2 g c =
    parted_apart c.args.lost.now c.loop-tuple.yielded c.loop-tuple.apart.items c.loop-tuple.near.items c.push.new.self.items c.in-Some.tuple c.in_ok-push.ensures.items (c.in_ok-is_apart.ensures c.if-branch.true) c.loop-tuple.invariant

pub loop-tuple-preserved : goal.loop-tuple-preserved
loop-tuple-preserved g c =
    parted_near c.args.lost.now c.loop-tuple.yielded c.loop-tuple.apart.items c.loop-tuple.near.items c.push-else-branch.new.self.items c.in-Some.tuple c.in_ok-push-2.ensures.items c.loop-tuple.invariant
