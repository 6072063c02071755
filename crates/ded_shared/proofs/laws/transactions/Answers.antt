use Rattle.ded_shared.proofs.OneTransaction.{transaction_steps}
use Rattle.ded_shared.proofs.laws.transactions.Goals as goal

pub returns : goal.returns
returns g = transaction_steps g.formed_catalogues.ensures.step
