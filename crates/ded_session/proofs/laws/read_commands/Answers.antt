use Rattle.ded_session.proofs.StepLemmas.{read_named, read_plain, read_short, step_read}
use Rattle.ded_session.proofs.laws.read_commands.Goals as goal

pub returns-clause-plain : goal.returns-clause-plain
returns-clause-plain c = λ language bytes command. read_plain language bytes command

pub returns-clause-short : goal.returns-clause-short
returns-clause-short c = λ language bytes command. read_short language bytes command

pub returns-clause-named : goal.returns-clause-named
returns-clause-named c = λ language bytes command. read_named language bytes command

pub returns-clause-step : goal.returns-clause-step
returns-clause-step c = λ language bytes x first next reply short read other answers. step_read language bytes first short x read other reply next answers
