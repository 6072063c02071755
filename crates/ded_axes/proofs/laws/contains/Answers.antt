use Rattle.ded_axes.proofs.Containing.{contains}
use Rattle.ded_axes.proofs.laws.contains.Goals as goal

pub returns : goal.returns
returns c = contains
