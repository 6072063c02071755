use Rattle.ded_print.proofs.QuotedTexts.{one_plan}
use Rattle.ded_print.proofs.laws.one_plan.Goals as goal

pub returns : goal.returns
returns c = one_plan
