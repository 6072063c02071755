use Rattle.ded_svg.proofs.Coordinates.{near}
use Rattle.ded_svg.proofs.laws.place.Goals as goal

pub returns : goal.returns
returns c = near
