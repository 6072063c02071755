use Rattle.ded_topology.proofs.MadeNames.{closure_stands, interior_stands}
use Rattle.ded_topology.proofs.laws.names.Goals as goal

pub returns-clause-closure : goal.returns-clause-closure
returns-clause-closure c = λ k m n h ts us e s is over. closure_stands k m n h ts us e s is

pub returns-clause-interior : goal.returns-clause-interior
returns-clause-interior c = λ k m n h ts us e s is over. interior_stands k m n h ts us e s is
