use Rattle.ded_lex.proofs.Cuts.{cut_of_nothing, has_cut, has_statements}
use Rattle.ded_lex.proofs.laws.each_input_is_cut.Goals as goal

pub returns-clause-cut : goal.returns-clause-cut
returns-clause-cut c = has_cut

pub returns-clause-statements : goal.returns-clause-statements
returns-clause-statements c = has_statements

pub returns-clause-nothing : goal.returns-clause-nothing
returns-clause-nothing c = cut_of_nothing
