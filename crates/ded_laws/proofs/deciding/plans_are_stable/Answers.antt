use Rattle.ded_laws.proofs.Decided.{plan_stable}
use Rattle.ded_laws.proofs.deciding.plans_are_stable.Goals as goal

pub returns : goal.returns
returns c = plan_stable
