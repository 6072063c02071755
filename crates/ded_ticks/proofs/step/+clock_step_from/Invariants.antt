-- One step of minutes less each time.
use Rattle.std.proofs.Common.{length}
use Rattle.ded_ticks.proofs.step.+clock_step_from.Given as goal

abbrev pub decreases-clock_step_from : goal.decreases-clock_step_from
decreases-clock_step_from l = length l.minutes.now
