use Rattle.ded_laws.proofs.Weakened.{closure_is}
use Rattle.ded_laws.proofs.near.closures.Goals as goal

pub returns : goal.returns
returns c = closure_is
