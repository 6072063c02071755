use Rattle.ded_row.proofs.Mixes.{mix-holds}
use Rattle.ded_row.proofs.laws.combinations.Goals as goal

pub returns : goal.returns
returns c = λ s q r p h l n e f. mix-holds s q r p h l n e f
