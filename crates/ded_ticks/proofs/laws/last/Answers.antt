-- Eight steps reach over the scale.
use Rattle.ded_ticks.proofs.Reaching.{last_behind}
use Rattle.ded_ticks.proofs.laws.last.Goals as goal

pub returns : goal.returns
returns c = last_behind
