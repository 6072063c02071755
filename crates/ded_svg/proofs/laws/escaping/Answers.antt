use Rattle.ded_svg.proofs.Characters.{escape_parts, escape_valid}
use Rattle.ded_svg.proofs.laws.escaping.Goals as goal

pub returns-clause-parts : goal.returns-clause-parts
returns-clause-parts c = escape_parts

pub returns-clause-utf8 : goal.returns-clause-utf8
returns-clause-utf8 c = escape_valid
