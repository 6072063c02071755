use Rattle.ded_model.proofs.Members.{elim-grows, clash-grows}
use Rattle.ded_laws.proofs.lines.eliminations_grow.Goals as goal

pub returns-clause-lines : goal.returns-clause-lines
returns-clause-lines c = elim-grows

pub returns-clause-clash : goal.returns-clause-clash
returns-clause-clash c = clash-grows
