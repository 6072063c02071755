use Rattle.ded_width.proofs.Answers.{orderly_tuples}
use Rattle.ded_width.proofs.laws.orderly_rows.Goals as goal

pub returns : goal.returns
returns c = orderly_tuples
