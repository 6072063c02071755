use Rattle.ded_lex.proofs.TokenLists.{one_token_list}
use Rattle.ded_lex.proofs.laws.one_token_list.Goals as goal

pub returns : goal.returns
returns c = one_token_list
