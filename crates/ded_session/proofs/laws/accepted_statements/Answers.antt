use Rattle.ded_session.proofs.AcceptedRuns.{accepted_steps, accepted_run}
use Rattle.ded_session.proofs.laws.accepted_statements.Goals as goal

pub returns-clause-steps : goal.returns-clause-steps
returns-clause-steps c = accepted_steps

pub returns-clause-run : goal.returns-clause-run
returns-clause-run c = accepted_run
