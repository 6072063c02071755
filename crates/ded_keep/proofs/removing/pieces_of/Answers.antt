use Rattle.std.proofs.Common.{take, [], sym, subst}
use Rattle.ded_keep.specs.Remaining.{AreOfBoth}
use Rattle.ded_keep.proofs.Covered.{taken_to}
use Rattle.ded_keep.proofs.Leaving.{pieces_none}
use Rattle.ded_keep.proofs.removing.pieces_of.Goals as goal

pub loop-other-init : goal.loop-other-init
loop-other-init g c = subst (AreOfBoth c.args.tuple.now []) (sym c.new-pieces.ensures.items) (pieces_none c.args.tuple.now)

pub loop-other-preserved : goal.loop-other-preserved
loop-other-preserved g c =
    subst (λ us. AreOfBoth c.args.tuple.now us c.push_met.new.pieces.items) (sym (taken_to c.args.list.now c.loop-other.other-index c.other-item.result c.loop-other-test.true c.other-item.is))
    (c.in_ok-push_met.ensures (take c.loop-other.other-index c.args.list.now) c.loop-other.invariant)
