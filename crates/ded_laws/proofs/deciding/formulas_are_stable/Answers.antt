use Rattle.ded_laws.proofs.Decided.{Holds_stable}
use Rattle.ded_laws.proofs.deciding.formulas_are_stable.Goals as goal

pub returns : goal.returns
returns c = Holds_stable
