use Rattle.ded_laws.proofs.Decided.{plan_decided}
use Rattle.ded_laws.proofs.deciding.plans_are_decided.Goals as goal

pub returns : goal.returns
returns c = plan_decided
