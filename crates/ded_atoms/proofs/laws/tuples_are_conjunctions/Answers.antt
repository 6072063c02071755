use Rattle.ded_theory.proofs.Shared.{holds_alike}
use Rattle.ded_atoms.proofs.Conjunctive.{tuple_mentions-is, atom_cell-is, atoms_lines-is}
use Rattle.ded_atoms.proofs.laws.tuples_are_conjunctions.Goals as goal

pub returns-clause-holds : goal.returns-clause-holds
returns-clause-holds c = holds_alike

pub returns-clause-slots : goal.returns-clause-slots
returns-clause-slots c = tuple_mentions-is

pub returns-clause-lines : goal.returns-clause-lines
returns-clause-lines c = atoms_lines-is

pub returns-clause-cells : goal.returns-clause-cells
returns-clause-cells c = atom_cell-is
