use Rattle.ded_laws.proofs.Classical.{formula_exists_is}
use Rattle.ded_laws.proofs.deciding.exists_is_not_all_not.Goals as goal

pub returns : goal.returns
returns c = formula_exists_is
