use Rattle.ded_grammar.proofs.Tells.{tells}
use Rattle.ded_grammar.proofs.scan.is_formula.Goals as goal

pub returns : goal.returns
returns c = tells c.args.terminals.now c.scanned.result c.scanned.ensures
