use Rattle.std.proofs.Common.{true, true≢false}
use Rattle.ded_session.specs.Answered.{reply_form}
use Rattle.ded_draw.specs.Standing.{gathered_in}
use Rattle.ded_draw.proofs.Heard.{heard, when_gathered}
use Rattle.ded_draw.proofs.gathering.GatheringAnswering.answer.Goals as goal

pub returns-then-is_err : goal.returns-then-is_err
returns-then-is_err c =
    heard c.args.piece (gathered_in c.args.self.now) (gathered_in (record { session = c.step-reply.new.self; replies = c.gather.new.replies; starved = true })) (reply_form c.step-reply.result) c.is_refusal-refuses.result
    c.step-reply.ensures.step c.step-reply.ensures.language c.is_refusal-refuses.ensures (λ never. absurd (true≢false never))

pub returns-else-is_err : goal.returns-else-is_err
returns-else-is_err c =
    heard c.args.piece (gathered_in c.args.self.now) (gathered_in (record { session = c.step-reply.new.self; replies = c.gather.new.replies; starved = c.args.self.now.starved })) (reply_form c.step-reply.result) c.is_refusal-refuses.result
    c.step-reply.ensures.step c.step-reply.ensures.language c.is_refusal-refuses.ensures (λ fed. (fed, when_gathered c.gather.result _ c.if-is_err.false c.is_err.ensures.value c.gather.ensures))
