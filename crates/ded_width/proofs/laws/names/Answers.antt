use Rattle.ded_width.proofs.NameReaches.{names_in_reach}
use Rattle.ded_width.proofs.laws.names.Goals as goal

pub returns : goal.returns
returns c = record { reach = names_in_reach }
