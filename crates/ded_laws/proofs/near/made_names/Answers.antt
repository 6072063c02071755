use Rattle.ded_model.proofs.Made.{reading-closure, reading-interior, plain_name}
use Rattle.ded_laws.proofs.near.made_names.Goals as goal

pub returns-clause-closure : goal.returns-clause-closure
returns-clause-closure c = reading-closure

pub returns-clause-interior : goal.returns-clause-interior
returns-clause-interior c = reading-interior

pub returns-clause-plain : goal.returns-clause-plain
returns-clause-plain c = plain_name
