use Rattle.ded_laws.proofs.Weakened.{mixes}
use Rattle.ded_laws.proofs.near.mixes.Goals as goal

pub returns : goal.returns
returns c = mixes
