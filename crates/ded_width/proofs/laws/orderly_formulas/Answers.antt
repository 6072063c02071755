use Rattle.ded_width.proofs.Answers.{orderly_tight, orderly_lines}
use Rattle.ded_width.proofs.laws.orderly_formulas.Goals as goal

pub returns-clause-tight : goal.returns-clause-tight
returns-clause-tight c = orderly_tight

pub returns-clause-lines : goal.returns-clause-lines
returns-clause-lines c = orderly_lines
