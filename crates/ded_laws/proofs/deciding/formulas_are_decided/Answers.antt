use Rattle.ded_laws.proofs.Decided.{Holds_decided}
use Rattle.ded_laws.proofs.deciding.formulas_are_decided.Goals as goal

pub returns : goal.returns
returns c = Holds_decided
