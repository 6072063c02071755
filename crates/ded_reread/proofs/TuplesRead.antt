-- The texts of tuples are worded as the comparisons that are read back of them.
use Rattle.std.proofs.Common.{◌≡◌, inr, inl, ℕ, false, List, [], ◌∷◌, ◌++◌, map, refl, sym, ap, ap₂, ◌∙◌}
use Rattle.std.specs.Prelude.{codes}
use Rattle.std.proofs.lemmas.Bool.{or_parts, or_from}
use Rattle.ded_model.specs.Form.{Form, FormAtom}
use Rattle.ded_model.specs.Logic.{atom, some_atom, some_atom_of, AllAtomsOf, Logics, also, logics}
use Rattle.ded_model.specs.LongRows.{is_long_atom}
use Rattle.ded_model.specs.Normal.{IsNormalTuple}
use Rattle.ded_model.specs.Plain.{IsPlainAtom}
use Rattle.ded_model.specs.Row.{Atom}
use Rattle.ded_print.specs.Tuples.{Names, atom_text, later_atoms_text, tuple_text}
use Rattle.ded_terminals.specs.Symbols.{Symbol, OpenBrace, CloseBrace, Comma}
use Rattle.ded_terminals.specs.Literals.{exact, marked}
use Rattle.ded_terminals.specs.Atoms.{Comparison, spell_comparison, comparison_form, spell_rest}
use Rattle.ded_syntax.specs.Marks.{is_marked_atom}
use Rattle.ded_syntax.proofs.Marked.{comparison_exact}
use Rattle.ded_reread.specs.Formulas.{tuple_compare, tuple_compares}
use Rattle.ded_reread.specs.Words.{AtomHasWords}
use Rattle.ded_reread.specs.ScriptWords.{IsName, IsMember, IsText}
use Rattle.ded_reread.proofs.AtomsRead.{worded_tuple_atom, comma}
use Rattle.ded_reread.proofs.WordedAtoms.{IsWordedComparison}
use Rattle.ded_reread.proofs.Worded.{Worded, Loose, Fits, Any, then_any, then_fitting, as_worded, nothing, blank, lone_sign}

pub opened : Loose (codes "{ ") (OpenBrace ∷ [])
opened = then_any Any (codes "{") (codes " ") (OpenBrace ∷ []) [] (lone_sign (codes "{") (inr (inr (inl refl))) refl) blank

pub closed : Worded (codes "}") (CloseBrace ∷ [])
closed = as_worded (codes "}") (CloseBrace ∷ []) (lone_sign (codes "}") (inr (inr (inr (inl refl)))) refl)

closed_apart : Worded (codes " }") (CloseBrace ∷ [])
closed_apart = then_any Fits (codes " ") (codes "}") [] (CloseBrace ∷ []) blank closed

-- ---- one atom

as_marked : (t : List ℕ) (a : FormAtom) (w : IsWordedComparison t a) → comparison_form marked w.spelled ≡ comparison_form exact w.spelled
as_marked t a w = comparison_exact w.spelled w.unmarked

no_mark : (t : List ℕ) (a : FormAtom) → IsWordedComparison t a → is_marked_atom a ≡ false
no_mark t a w = ap (some_atom is_marked_atom) (sym (as_marked t a w ∙ w.means)) ∙ w.unmarked

-- ---- atoms in a row

-- comparisons of the grammar that mean these, for both readers
pub record AreMeant (cs : List Comparison) (fs : Logics FormAtom) : Type 0 where
  pub means : logics (map (comparison_form exact) cs) ≡ fs
  pub marking : logics (map (comparison_form marked) cs) ≡ fs
  pub unmarked : some_atom_of is_marked_atom fs ≡ false

none_meant : AreMeant [] Logics.none
none_meant = record { means = refl; marking = refl; unmarked = refl }

one_meant : (t : List ℕ) (a : FormAtom) (cs : List Comparison) (fs : Logics FormAtom) → (w : IsWordedComparison t a) → AreMeant cs fs → AreMeant (w.spelled ∷ cs) (also (atom a) fs)
one_meant t a cs fs w m = record {
  means = ap₂ (λ (f : Form) (gs : Logics FormAtom). also f gs) w.means m.means;
  marking = ap₂ (λ (f : Form) (gs : Logics FormAtom). also f gs) (as_marked t a w ∙ w.means) m.marking;
  unmarked = or_from (is_marked_atom a) (some_atom_of is_marked_atom fs) (no_mark t a w) m.unmarked;
}

record AreWordedAtoms (bytes : List ℕ) (fs : Logics FormAtom) : Type 0 where
  comparisons : List Comparison
  worded : Worded bytes (spell_rest spell_comparison comparisons)
  meant : AreMeant comparisons fs

fits_atoms : (names : Names) (atoms : List Atom) → Fits (later_atoms_text names atoms)
fits_atoms names [] = tt
fits_atoms names (a ∷ atoms) = refl

fits_end : (names : Names) (atoms : List Atom) → Fits (later_atoms_text names atoms ++ codes " }")
fits_end names [] = refl
fits_end names (a ∷ atoms) = refl

atoms_worded : (names : Names) (atoms : List Atom) → IsNormalTuple atoms → AllAtomsOf (AtomHasWords IsName IsMember IsText) (tuple_compares names atoms) → AllAtomsOf IsPlainAtom (tuple_compares names atoms)
    → some_atom_of is_long_atom (tuple_compares names atoms) ≡ false → AreWordedAtoms (later_atoms_text names atoms) (tuple_compares names atoms)
atoms_worded names [] normal words plain short = record { comparisons = []; worded = nothing Fits; meant = none_meant }
atoms_worded names (a ∷ atoms) normal words plain short =
    let both = or_parts (is_long_atom (tuple_compare names a)) (some_atom_of is_long_atom (tuple_compares names atoms)) short in
    let w = worded_tuple_atom names a normal.0 words.0 plain.0 both.0 in
    let ws = atoms_worded names atoms normal.2 words.1 plain.1 both.1 in
    record {
      comparisons = w.spelled ∷ ws.comparisons;
      worded = then_any Fits (codes ", ") (atom_text names a ++ later_atoms_text names atoms) (Comma ∷ []) (spell_comparison w.spelled ++ spell_rest spell_comparison ws.comparisons) comma
          (then_fitting (atom_text names a) (later_atoms_text names atoms) (spell_comparison w.spelled) (spell_rest spell_comparison ws.comparisons) w.worded (fits_atoms names atoms) ws.worded);
      meant = one_meant (atom_text names a) (tuple_compare names a) ws.comparisons (tuple_compares names atoms) w ws.meant;
    }

-- ---- tuples

-- how comparisons are spelled between braces
abbrev pub spell_braces : List Comparison → List Symbol
spell_braces [] = OpenBrace ∷ CloseBrace ∷ []
spell_braces (c ∷ cs) = OpenBrace ∷ spell_comparison c ++ (spell_rest spell_comparison cs ++ CloseBrace ∷ [])

pub record IsWordedTuple (bytes : List ℕ) (fs : Logics FormAtom) : Type 0 where
  pub comparisons : List Comparison
  pub worded : Worded bytes (spell_braces comparisons)
  pub meant : AreMeant comparisons fs

pub tuple_worded : (names : Names) (atoms : List Atom) → IsNormalTuple atoms → AllAtomsOf (AtomHasWords IsName IsMember IsText) (tuple_compares names atoms) → AllAtomsOf IsPlainAtom (tuple_compares names atoms)
    → some_atom_of is_long_atom (tuple_compares names atoms) ≡ false → IsWordedTuple (tuple_text names atoms) (tuple_compares names atoms)
tuple_worded names [] normal words plain short = record { comparisons = []; worded = then_any Fits (codes "{ ") (codes "}") (OpenBrace ∷ []) (CloseBrace ∷ []) opened closed; meant = none_meant }
tuple_worded names (a ∷ atoms) normal words plain short =
    let both = or_parts (is_long_atom (tuple_compare names a)) (some_atom_of is_long_atom (tuple_compares names atoms)) short in
    let w = worded_tuple_atom names a normal.0 words.0 plain.0 both.0 in
    let ws = atoms_worded names atoms normal.2 words.1 plain.1 both.1 in
    let more = later_atoms_text names atoms in
    record {
      comparisons = w.spelled ∷ ws.comparisons;
      worded =
          then_any Fits (codes "{ ") (atom_text names a ++ (more ++ codes " }")) (OpenBrace ∷ []) (spell_comparison w.spelled ++ (spell_rest spell_comparison ws.comparisons ++ CloseBrace ∷ [])) opened
          (then_fitting (atom_text names a) (more ++ codes " }") (spell_comparison w.spelled) (spell_rest spell_comparison ws.comparisons ++ CloseBrace ∷ []) w.worded (fits_end names atoms)
          (then_fitting more (codes " }") (spell_rest spell_comparison ws.comparisons) (CloseBrace ∷ []) ws.worded refl closed_apart));
      meant = one_meant (atom_text names a) (tuple_compare names a) ws.comparisons (tuple_compares names atoms) w ws.meant;
    }
