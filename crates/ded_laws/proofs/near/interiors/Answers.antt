use Rattle.ded_laws.proofs.Weakened.{interior_is}
use Rattle.ded_laws.proofs.near.interiors.Goals as goal

pub returns : goal.returns
returns c = interior_is
