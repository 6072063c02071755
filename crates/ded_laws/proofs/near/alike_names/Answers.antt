use Rattle.ded_model.proofs.Entries.{alike_names}
use Rattle.ded_laws.proofs.near.alike_names.Goals as goal

pub returns : goal.returns
returns c = alike_names
