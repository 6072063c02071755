use Rattle.ded_atoms.proofs.Narrowness as narrowness
use Rattle.ded_atoms.proofs.laws.narrow_atoms.Goals as goal

pub returns : goal.returns
returns c = narrowness.narrow_atoms
