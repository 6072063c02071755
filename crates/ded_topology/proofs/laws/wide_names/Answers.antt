use Rattle.ded_topology.proofs.WideNames.{wide_tuple, wide_together}
use Rattle.ded_topology.proofs.laws.wide_names.Goals as goal

pub returns-clause-each : goal.returns-clause-each
returns-clause-each c = λ k w m n r ts o s x. wide_tuple k w n ts o s m r x

pub returns-clause-together : goal.returns-clause-together
returns-clause-together c = λ k w m n r ts o s x. wide_together k w n ts o s m r x
