use Rattle.ded_runs.proofs.Steps.{asked}
use Rattle.ded_runs.proofs.laws.asked_certificates.Goals as goal

pub returns : goal.returns
returns g = asked
