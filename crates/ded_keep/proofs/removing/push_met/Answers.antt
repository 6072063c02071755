use Rattle.std.proofs.Common.{subst}
use Rattle.ded_algebra.specs.Evaluation.{IsMet}
use Rattle.ded_keep.proofs.Leaving.{pieces_more, pieces_skip}
use Rattle.ded_keep.proofs.removing.push_met.Goals as goal

pub returns-in_ok-push-in-Some : goal.returns-in_ok-push-in-Some
returns-in_ok-push-in-Some g c = λ us k.
    pieces_more c.args.tuple.now us c.args.pieces.now.items c.push.new.self.items c.args.other.now c.in-Some.piece c.in_ok-push-in-Some.ensures.items (subst (IsMet c.args.tuple.now c.args.other.now) c.in-Some.is c.in_ok-piece.ensures) k

pub returns-in-None : goal.returns-in-None
returns-in-None g c = λ us k.
    pieces_skip c.args.tuple.now us c.args.pieces.now.items c.args.other.now (subst (IsMet c.args.tuple.now c.args.other.now) c.in-None.is c.in_ok-piece.ensures) k
