use Rattle.ded_elimination.proofs.Shared.{atoms_normal}
use Rattle.ded_atoms.proofs.Conjunctive.{normal_or_true}
use Rattle.ded_atoms.proofs.Narrowness.{narrow_is}
use Rattle.ded_atoms.proofs.laws.normal_tuples.Goals as goal

pub returns-clause-normal : goal.returns-clause-normal
returns-clause-normal c = atoms_normal

pub returns-clause-atoms : goal.returns-clause-atoms
returns-clause-atoms c = normal_or_true

pub returns-clause-narrow : goal.returns-clause-narrow
returns-clause-narrow c = narrow_is
