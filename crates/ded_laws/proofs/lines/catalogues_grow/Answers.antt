use Rattle.ded_model.proofs.Growth.{measures-grow, tight-grows}
use Rattle.ded_laws.proofs.lines.catalogues_grow.Goals as goal

pub returns-clause-lines : goal.returns-clause-lines
returns-clause-lines c = λ d e h. (measures-grow d e h).lines

pub returns-clause-clash : goal.returns-clause-clash
returns-clause-clash c = λ d e h. (measures-grow d e h).clash

pub returns-clause-tight : goal.returns-clause-tight
returns-clause-tight c = tight-grows
