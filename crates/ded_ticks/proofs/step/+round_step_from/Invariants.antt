-- One power of ten less each time.
use Rattle.ded_ticks.proofs.step.+round_step_from.Given as goal

abbrev pub decreases-round_step_from : goal.decreases-round_step_from
decreases-round_step_from l = l.left
