-- Atoms that are normal one by one, and those of them that say something.
use Rattle.std.specs.Prelude.{Bool, false, List, [], ◌∷◌, if◌then◌else◌}
use Rattle.ded_model.specs.declared.tuple.BothAtom.TheVariants.{First, Second}
use Rattle.ded_model.specs.Row.{Atom}
use Rattle.ded_model.specs.Coefs.{AreCoefs}
use Rattle.ded_model.specs.Normal.{IsNormalRow, IsNormalTheme, is_true_row}

-- a normal row over rational slots in order, with coefficients that aren't 0, or a normal text atom; it may be the true row
abbrev pub IsNormalOrTrue : Atom → Type 0
IsNormalOrTrue (First r) = AreCoefs r.coefs × IsNormalRow r
IsNormalOrTrue (Second a) = IsNormalTheme a

-- whether the atom is a row by `=` or `<=` without coefficients; a normal one is then `0 = 0`
abbrev pub is_true_atom : Atom → Bool
is_true_atom (First r) = is_true_row r
is_true_atom (Second a) = false

-- the atoms without true rows, in the same order
abbrev pub without_true : List Atom → List Atom
without_true [] = []
without_true (a ∷ atoms) = if is_true_atom a then without_true atoms else a ∷ without_true atoms
