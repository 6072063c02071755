use Rattle.ded_shared.specs.Deciding.{some_tagged}
use Rattle.ded_shared.proofs.laws.tagged_statements.Goals as goal

pub returns : goal.returns
returns g = some_tagged
