use Rattle.ded_lex.proofs.Cuts.{goes_on, statements_on}
use Rattle.ded_lex.proofs.laws.cut_goes_on.Goals as goal

pub returns-clause-cut : goal.returns-clause-cut
returns-clause-cut c = λ taken more rest end pieces others. goes_on pieces taken rest more others end

pub returns-clause-statements : goal.returns-clause-statements
returns-clause-statements c = λ taken more rest pieces statements. statements_on taken more pieces rest statements
