use Rattle.ded_laws.proofs.Classical.{formula_forall_is}
use Rattle.ded_laws.proofs.deciding.forall_is_not_some_not.Goals as goal

pub returns : goal.returns
returns c = formula_forall_is
