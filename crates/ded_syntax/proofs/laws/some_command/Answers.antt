use Rattle.ded_syntax.proofs.Decided.{spelling_decided, some_command, some_read}
use Rattle.ded_syntax.proofs.laws.some_command.Goals as goal

pub returns-clause-decided : goal.returns-clause-decided
returns-clause-decided c = spelling_decided

pub returns-clause-spelled : goal.returns-clause-spelled
returns-clause-spelled c = some_command

pub returns-clause-read : goal.returns-clause-read
returns-clause-read c = some_read
