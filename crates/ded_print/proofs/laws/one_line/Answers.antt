use Rattle.ded_print.proofs.LineReplies.{lines}
use Rattle.ded_print.proofs.laws.one_line.Goals as goal

pub returns : goal.returns
returns c = lines
