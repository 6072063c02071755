use Rattle.ded_dialogue.proofs.Sending.{put_stopped, put_sent}
use Rattle.ded_dialogue.proofs.pending.put.Goals as goal

pub returns-in_err-flush-clause-written : goal.returns-in_err-flush-clause-written
returns-in_err-flush-clause-written g c =
    put_stopped _ _ _ _ _ _ c.in_err-flush.ensures.bytes.0 _ c.from_residual.ensures.0 (c.keep.ensures.left c.if-keep.false) c.in_err-flush.ensures.bytes.1

pub returns-clause-written : goal.returns-clause-written
returns-clause-written g c =
    put_sent _ _ _ _ _ _ _ _ (c.keep.ensures.left c.if-keep.false) c.in_ok-flush.ensures.none c.in_ok-flush.ensures.bytes c.write.ensures.bytes
