use Rattle.ded_lex.proofs.Cuts.{one_cut, one_list}
use Rattle.ded_lex.proofs.laws.one_cut.Goals as goal

pub returns-clause-cut : goal.returns-clause-cut
returns-clause-cut c = λ input rest end pieces others. one_cut pieces others input rest end

pub returns-clause-statements : goal.returns-clause-statements
returns-clause-statements c = one_list
