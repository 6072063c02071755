use Rattle.ded_model.proofs.Entries.{meaning-plain, measure-plain}
use Rattle.ded_laws.proofs.points.plain_names.Goals as goal

pub returns-clause-meaning : goal.returns-clause-meaning
returns-clause-meaning c = meaning-plain

pub returns-clause-measure : goal.returns-clause-measure
returns-clause-measure c = measure-plain
