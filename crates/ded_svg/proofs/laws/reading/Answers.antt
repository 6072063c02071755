use Rattle.ded_svg.proofs.Coordinates.{coordinate_read}
use Rattle.ded_svg.proofs.laws.reading.Goals as goal

pub returns : goal.returns
returns c = coordinate_read
