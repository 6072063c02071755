use Rattle.ded_runs.proofs.Inserts.{few_step, few_after}
use Rattle.ded_runs.proofs.laws.few_inserts.Goals as goal

pub returns-clause-step : goal.returns-clause-step
returns-clause-step c = few_step

pub returns-clause-run : goal.returns-clause-run
returns-clause-run c = few_after c.formed_catalogues.ensures.step
