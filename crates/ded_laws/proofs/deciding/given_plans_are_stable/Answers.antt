use Rattle.ded_laws.proofs.Decided.{given_stable}
use Rattle.ded_laws.proofs.deciding.given_plans_are_stable.Goals as goal

pub returns : goal.returns
returns c = given_stable
