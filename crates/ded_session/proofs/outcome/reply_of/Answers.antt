use Rattle.std.proofs.Common.{sym, ap, refl, subst, rules, Option}
use Rattle.std.specs.Prelude.{IfOk, Result}
use Rattle.std.specs.Option.{unwrap_or}
use Rattle.ded_model.specs.declared.command.Refusal.{Refusal}
use Rattle.ded_model.specs.declared.command.Refusal.TheVariants.{Memory}
use Rattle.ded_model.specs.declared.memory.Refused.{Refused}
use Rattle.ded_session.specs.declared.reply.Reply.{Reply}
use Rattle.ded_session.specs.Answered.{reply_form}
use Rattle.ded_session.specs.Steps.{Does}
use Rattle.ded_session.proofs.Carried.{carries}
use Rattle.ded_session.proofs.outcome.reply_of.Goals as goal

pub returns-in-Ok : goal.returns-in-Ok
returns-in-Ok c = λ x k left does wide.
    carries x k k (reply_form c.in-Ok.reply) left (subst (λ (f : Result Reply Refused). IfOk f (λ r. Does x k (reply_form r) k)) c.in-Ok.is does)

pub returns-in-Err-Wide : goal.returns-in-Err-Wide
returns-in-Err-Wide c = λ x k left does wide. (wide (search rules), refl)

pub returns-in-Err-Memory : goal.returns-in-Err-Memory
returns-in-Err-Memory c = λ x k left does wide. (ap (λ (o : Option Refusal). unwrap_or o Memory) (sym left), refl)
