use Rattle.ded_grammar.proofs.Leaves.{spelled_atoms}
use Rattle.ded_grammar.proofs.laws.atoms_stand_in_terminals.Goals as goal

pub returns : goal.returns
returns c = spelled_atoms
