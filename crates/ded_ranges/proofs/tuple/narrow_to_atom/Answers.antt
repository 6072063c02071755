use Rattle.std.proofs.Common.{◌≡◌, true, subst}
use Rattle.ded_model.specs.Row.{Atom, atom_holds}
use Rattle.ded_ranges.proofs.tuple.narrow_to_atom.Goals as goal

pub returns-in-First : goal.returns-in-First
unfolding atom_holds
returns-in-First c = λ p l h. c.narrow_to_row.ensures p l (subst (λ (a : Atom). atom_holds a p ≡ true) c.in-First.is h)
