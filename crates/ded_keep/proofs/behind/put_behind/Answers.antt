use Rattle.std.proofs.Common.{subst}
use Rattle.ded_keep.specs.Behind.{IsCovered}
use Rattle.ded_keep.proofs.Covered.{behind_none, behind_more, behind_covered}
use Rattle.ded_keep.proofs.behind.put_behind.Goals as goal

pub loop-tuple-init : goal.loop-tuple-init
loop-tuple-init g c = behind_none c.args.list.now.items

pub loop-tuple-preserved-in_ok-push : goal.loop-tuple-preserved-in_ok-push
loop-tuple-preserved-in_ok-push g c = behind_more c.args.list.now.items c.loop-tuple.yielded c.loop-tuple.list.items c.push.new.self.items c.in-Some.tuple c.in_ok-push.ensures.items c.loop-tuple.invariant

pub loop-tuple-preserved : goal.loop-tuple-preserved
loop-tuple-preserved g c =
    behind_covered c.args.list.now.items c.loop-tuple.yielded c.loop-tuple.list.items c.in-Some.tuple
    (subst (IsCovered c.in-Some.tuple) c.deref.ensures.value (c.in_ok-is_covered.ensures c.if-not-branch.false)) c.loop-tuple.invariant
