-- Lemmas that several crates cite.
use Rattle.std.proofs.Common.{List, [], ◌∷◌}
use Rattle.std.specs.List.{AllByRecursion}
use Rattle.ded_model.specs.declared.tuple.BothAtom.TheVariants.{First, Second}
use Rattle.ded_model.specs.Row.{Atom}
use Rattle.ded_model.specs.Normal.{IsNormalTheme, IsNormalTuple}
use Rattle.ded_theory.specs.Both.{IsByKind}
use Rattle.ded_elimination.specs.LinearAtoms.{IsLinearAtom}

-- and its atoms are normal where it is
pub atoms_normal : (t : List Atom) → IsNormalTuple t → AllByRecursion (IsByKind IsLinearAtom IsNormalTheme) t
atoms_normal [] n = tt
atoms_normal (First r ∷ t) n = (record { coefs = n.0.0; row = n.0.1 }, atoms_normal t n.2)
atoms_normal (Second a ∷ t) n = (n.0, atoms_normal t n.2)
