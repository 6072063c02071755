use Rattle.ded_laws.proofs.Classical.{formula_implies_is}
use Rattle.ded_laws.proofs.deciding.implies_is_not_or.Goals as goal

pub returns : goal.returns
returns c = formula_implies_is
