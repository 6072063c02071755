use Rattle.ded_axes.proofs.Near.{across, down}
use Rattle.ded_axes.proofs.laws.places.Goals as goal

pub returns-clause-across : goal.returns-clause-across
returns-clause-across c = across

pub returns-clause-down : goal.returns-clause-down
returns-clause-down c = down
