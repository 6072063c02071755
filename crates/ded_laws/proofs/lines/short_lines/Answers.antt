use Rattle.ded_model.proofs.LineLengths.{lines_fit, no_clash}
use Rattle.ded_laws.proofs.lines.short_lines.Goals as goal

pub returns-clause-two : goal.returns-clause-two
returns-clause-two c = lines_fit

pub returns-clause-set : goal.returns-clause-set
returns-clause-set c = no_clash
