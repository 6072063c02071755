use Rattle.ded_laws.proofs.Decided.{given_decided}
use Rattle.ded_laws.proofs.deciding.given_plans_are_decided.Goals as goal

pub returns : goal.returns
returns c = given_decided
