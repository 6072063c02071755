use Rattle.ded_session.proofs.PlainNames.{plain_step, plain_steps, plain_run}
use Rattle.ded_session.proofs.laws.plain_names.Goals as goal

pub returns-clause-step : goal.returns-clause-step
returns-clause-step c = plain_step

pub returns-clause-steps : goal.returns-clause-steps
returns-clause-steps c = plain_steps

pub returns-clause-run : goal.returns-clause-run
returns-clause-run c = plain_run
