use Rattle.ded_reread.proofs.Goals.{alike_restored}
use Rattle.ded_reread.proofs.Meanings.{holds_restored}
use Rattle.ded_reread.proofs.laws.alike_formulas.Goals as goal

pub returns-clause-holds : goal.returns-clause-holds
returns-clause-holds call = λ c K h f a p d xs i. holds_restored c K h f a p d xs i

pub returns-clause-b : goal.returns-clause-b
returns-clause-b call = λ c K h f a p. (alike_restored c K h f a p).b

pub returns-clause-rank : goal.returns-clause-rank
returns-clause-rank call = λ c K h f a p. (alike_restored c K h f a p).rank
