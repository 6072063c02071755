-- Of all these steps of minutes.
use Rattle.ded_ticks.specs.Steps.{clock_step}
use Rattle.ded_ticks.proofs.step.clock_step.Goals as goal

pub returns-clause-value : goal.returns-clause-value
unfolding clock_step
returns-clause-value c = c.clock_step_from.ensures.value
