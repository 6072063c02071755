use Rattle.ded_shared.proofs.Changed.{changed_touched}
use Rattle.ded_shared.proofs.laws.changed_names.Goals as goal

pub returns : goal.returns
returns c = λ d x reply n w e. changed_touched d n x reply w e
