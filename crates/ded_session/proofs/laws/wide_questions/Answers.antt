use Rattle.ded_session.proofs.WideQuestions.{wide_is}
use Rattle.ded_session.proofs.laws.wide_questions.Goals as goal

pub returns-clause-step : goal.returns-clause-step
returns-clause-step g = wide_is

pub returns-clause-run : goal.returns-clause-run
returns-clause-run g = λ limit script replies c run language s d. wide_is language c d s (g.formed_catalogues.ensures.run limit script replies c run)
