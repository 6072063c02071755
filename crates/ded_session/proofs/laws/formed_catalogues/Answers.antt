use Rattle.ded_session.proofs.FormedSteps.{formed_step, formed_run}
use Rattle.ded_session.proofs.laws.formed_catalogues.Goals as goal

pub returns-clause-step : goal.returns-clause-step
returns-clause-step g = formed_step g.normal_goals.ensures.sorted

pub returns-clause-run : goal.returns-clause-run
returns-clause-run g = formed_run g.normal_goals.ensures.sorted
