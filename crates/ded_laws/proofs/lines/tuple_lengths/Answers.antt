use Rattle.ded_laws.proofs.TupleLengths.{tuples_within, tuples_short}
use Rattle.ded_laws.proofs.lines.tuple_lengths.Goals as goal

pub returns-clause-lines : goal.returns-clause-lines
returns-clause-lines c = tuples_within

pub returns-clause-rows : goal.returns-clause-rows
returns-clause-rows c = tuples_short
