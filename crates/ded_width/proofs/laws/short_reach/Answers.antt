use Rattle.ded_width.proofs.ShortNames.{formula_short}
use Rattle.ded_width.proofs.laws.short_reach.Goals as goal

pub returns : goal.returns
returns c = formula_short
