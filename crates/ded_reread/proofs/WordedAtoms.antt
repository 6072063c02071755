-- What it is that the text of an atom is worded as the atom that is read back of it.
use Rattle.std.proofs.Common.{◌≡◌, ℕ, false, List}
use Rattle.ded_model.specs.Form.{FormAtom}
use Rattle.ded_model.specs.Logic.{atom, some_atom}
use Rattle.ded_terminals.specs.Atoms.{Atom, relates, spell_atom, atom_form, Comparison, spell_comparison, comparison_form}
use Rattle.ded_terminals.specs.Literals.{exact, marked}
use Rattle.ded_syntax.specs.Marks.{is_marked_atom}
use Rattle.ded_reread.proofs.Worded.{Worded}

-- it is worded as the symbols of an atom of the grammar that means this one, and has no mark
pub record IsWordedAtom (text : List ℕ) (a : FormAtom) : Type 0 where
  pub spelled : Atom
  pub worded : Worded text (spell_atom spelled)
  pub means : atom_form exact spelled ≡ atom a
  pub unmarked : some_atom is_marked_atom (atom_form marked spelled) ≡ false

-- the same of a comparison
pub record IsWordedComparison (text : List ℕ) (a : FormAtom) : Type 0 where
  pub spelled : Comparison
  pub worded : Worded text (spell_comparison spelled)
  pub means : comparison_form exact spelled ≡ atom a
  pub unmarked : some_atom is_marked_atom (comparison_form marked spelled) ≡ false

pub as_atom : (text : List ℕ) (a : FormAtom) → IsWordedComparison text a → IsWordedAtom text a
as_atom text a w = record { spelled = relates w.spelled; worded = w.worded; means = w.means; unmarked = w.unmarked }
