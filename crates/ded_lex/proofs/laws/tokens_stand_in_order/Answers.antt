use Rattle.ded_lex.proofs.Spans.{in_order}
use Rattle.ded_lex.proofs.laws.tokens_stand_in_order.Goals as goal

pub returns : goal.returns
returns c = in_order
