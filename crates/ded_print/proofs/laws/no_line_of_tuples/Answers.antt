use Rattle.ded_print.proofs.Telling.{no_line}
use Rattle.ded_print.proofs.laws.no_line_of_tuples.Goals as goal

pub returns : goal.returns
returns c = no_line
