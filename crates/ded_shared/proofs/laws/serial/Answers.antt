use Rattle.ded_shared.proofs.OneSession.{one_session}
use Rattle.ded_shared.proofs.laws.serial.Goals as goal

pub returns : goal.returns
returns g = one_session g.formed_catalogues.ensures.step
