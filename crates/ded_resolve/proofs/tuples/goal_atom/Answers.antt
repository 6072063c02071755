use Rattle.ded_resolve.proofs.Fitting.{falsehood_normal}
use Rattle.ded_resolve.proofs.tuples.goal_atom.Goals as goal

pub returns-in-False-clause-normal : goal.returns-in-False-clause-normal
returns-in-False-clause-normal c = λ h. (falsehood_normal c.falsehood.result c.falsehood.ensures, tt)
