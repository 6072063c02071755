use Rattle.ded_weighing.proofs.Shown.{rows_nowhere}
use Rattle.ded_weighing.proofs.laws.refutations.Goals as goal

pub returns : goal.returns
returns c = rows_nowhere
