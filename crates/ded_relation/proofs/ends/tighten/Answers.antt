use Rattle.ded_ranges.specs.Windows.{column_value}
use Rattle.ded_relation.proofs.ends.tighten.Goals as goal

pub returns-in_ok-range_of : goal.returns-in_ok-range_of
returns-in_ok-range_of c = λ old p i is. c.narrow.ensures.lies (column_value p) p.den (old p i is) (c.in_ok-range_of.ensures p i is)
