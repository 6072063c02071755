use Rattle.ded_runs.proofs.Telling.{printed, one_list, told}
use Rattle.ded_runs.proofs.laws.printed_lines.Goals as goal

pub returns-clause-lines : goal.returns-clause-lines
returns-clause-lines c = printed

pub returns-clause-one : goal.returns-clause-one
returns-clause-one c = one_list

pub returns-clause-told : goal.returns-clause-told
returns-clause-told c = told
