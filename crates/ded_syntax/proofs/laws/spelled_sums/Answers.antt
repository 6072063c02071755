use Rattle.ded_syntax.proofs.PlainSums.{spelled_plain}
use Rattle.ded_syntax.proofs.laws.spelled_sums.Goals as goal

pub returns : goal.returns
returns c = spelled_plain
