use Rattle.ded_laws.proofs.Weakened.{apart}
use Rattle.ded_laws.proofs.near.apart.Goals as goal

pub returns : goal.returns
returns c = apart
