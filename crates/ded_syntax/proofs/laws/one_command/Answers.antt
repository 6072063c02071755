use Rattle.ded_syntax.proofs.One.{one_command}
use Rattle.ded_syntax.proofs.laws.one_command.Goals as goal

pub returns : goal.returns
returns c = one_command
