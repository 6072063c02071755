use Rattle.ded_grammar.proofs.Told.{one_spelled}
use Rattle.ded_grammar.proofs.laws.one_formula.Goals as goal

pub returns : goal.returns
returns c = one_spelled
