use Rattle.ded_model.proofs.LineLengths.{combination-within, elim-within}
use Rattle.ded_laws.proofs.lines.lengths.Goals as goal

pub returns-clause-two : goal.returns-clause-two
returns-clause-two c = combination-within

pub returns-clause-set : goal.returns-clause-set
returns-clause-set c = elim-within
