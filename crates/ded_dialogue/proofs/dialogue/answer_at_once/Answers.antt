use Rattle.ded_dialogue.proofs.Sending.{stopped_at_once, sent_at_once}
use Rattle.ded_dialogue.proofs.dialogue.answer_at_once.Goals as goal

pub returns-in_err-answer-clause-replied : goal.returns-in_err-answer-clause-replied
returns-in_err-answer-clause-replied g c =
    let a = c.in_err-answer.ensures.replied in
    record {
      reply = a.reply;
      step = a.step;
      refuses = a.refuses;
      counts = a.counts;
      written = stopped_at_once _ _ _ _ _ _ _ c.new-pending.ensures c.from_residual.ensures.0 a.written;
    }

pub returns-clause-replied : goal.returns-clause-replied
returns-clause-replied g c =
    let a = c.in_ok-answer.ensures.replied in
    record {
      reply = a.reply;
      step = a.step;
      refuses = a.refuses;
      counts = a.counts;
      written = sent_at_once _ _ _ _ _ _ _ c.new-pending.ensures a.written.bytes c.flush.ensures.bytes;
    }
