use Rattle.std.proofs.Common.{[], arith}
use Rattle.ded_model.specs.Catalogue.{meaning}
use Rattle.ded_model.specs.Known.{known_of}
use Rattle.ded_sorts.proofs.Headings.{goals_mean}
use Rattle.ded_sorts.proofs.laws.goals_mean_formulas.Goals as goal

pub returns-clause-values : goal.returns-clause-values
returns-clause-values call = λ c K h f t u m d xs i. goals_mean (meaning c) K h f t u m d xs i

pub returns-clause-accepted : goal.returns-clause-accepted
returns-clause-accepted call = λ c h f a d xs i. goals_mean (meaning c) (known_of c.entries) h f a.once a.bound a.sorted d xs i

pub returns-clause-closed : goal.returns-clause-closed
returns-clause-closed call = λ c f a. goals_mean (meaning c) (known_of c.entries) [] f a.once a.bound a.sorted 1 [] (omega arith)
