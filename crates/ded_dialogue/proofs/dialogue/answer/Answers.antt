use Rattle.std.proofs.Common.{◌≡◌, ◌||◌, Bool, refl, ap, arith}
use Rattle.ded_io.specs.declared.device.Failed.{Failed}
use Rattle.ded_dialogue.proofs.Feeding.{writes_aloud, writes_silently}
use Rattle.ded_dialogue.proofs.dialogue.answer.Goals as goal

pub returns-clause-replied : goal.returns-clause-replied
returns-clause-replied g c =
    let none : c.args.silent.now ≡ 0 = omega (arith, c.if-silent-gt0.false) in
    record {
      reply = g.A.Answering.said c.answer-reply.result;
      step = c.answer-reply.ensures;
      refuses = ap (λ (b : Bool). c.args.refused.now || b) c.is_refusal.ensures;
      counts = omega (arith, none);
      written = writes_aloud _ _ _ _ _ _ _ none c.put.ensures.written;
    }

pub returns-then-silent-gt0-clause-replied : goal.returns-then-silent-gt0-clause-replied
returns-then-silent-gt0-clause-replied g c =
    record {
      reply = g.A.Answering.said c.answer-reply.result;
      step = c.answer-reply.ensures;
      refuses = ap (λ (b : Bool). c.args.refused.now || b) c.is_refusal.ensures;
      counts = refl;
      written = writes_silently Failed _ _ _ (g.A.Answering.said c.answer-reply.result) c.if-silent-gt0.true;
    }
