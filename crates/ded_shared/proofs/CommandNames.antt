-- The names that a command has, and those that it changes where it is accepted.
use Rattle.std.proofs.Common.{◌≡◌, ℕ, ◌+◌, ◌<◌, ◌||◌, List, [], ◌∷◌, ◌++◌, drop, length, get_or, sym, ap, ◌∙◌, bytes_eq}
use Rattle.std.proofs.Math.Bool.{or-false}
use Rattle.std.proofs.lemmas.List.{at_drop_more}
use Rattle.std.proofs.lemmas.List.Folds.{list_any-append}
use Rattle.ded_num.proofs.Tests.{bytes_eq-swap}
use Rattle.ded_model.specs.declared.formula.Formula.{Formula}
use Rattle.ded_model.specs.declared.name.Column.{Column}
use Rattle.ded_model.specs.Command.{insert, view}
use Rattle.ded_model.specs.Form.{Form, FormAtom, form, forms, atom_speaks_of, speaks_of}
use Rattle.ded_model.specs.Logic.{Logics, some_atom_of}
use Rattle.ded_model.proofs.Bools.{or_assoc}
use Rattle.ded_catalog.specs.Mentions.{AreMentions}
use Rattle.ded_database.proofs.Losing.{or_comm}
use Rattle.ded_shared.specs.Gathering.{AreNamed}
use Rattle.ded_shared.specs.State.{is_among}
use Rattle.ded_shared.proofs.ClosedNames.{among_more}

-- ---- names of a command

-- of a view, those and its name
pub named_view : (m : List ℕ) (h : List Column) (f : Form) (spoken ns : List (List ℕ)) → AreMentions spoken f → ns ≡ spoken ++ m ∷ [] → AreNamed (view m h f) ns
named_view m h f spoken ns a e = record {
  all = λ n.
      ap (λ l. is_among l n) e
      ∙ among_more spoken m n
      ∙ or_comm (is_among spoken n) (bytes_eq n m)
      ∙ ap (λ b. bytes_eq n m || b) (a.all n)
      ∙ ap (λ b. b || speaks_of n f) (sym (or-false (bytes_eq n m)));
}

-- of an insert, its name and those that its formulas speak of
pub named_insert : (m : List ℕ) (fs : Logics FormAtom) (start ns : List (List ℕ)) → start ≡ m ∷ [] → ((n : List ℕ) → is_among ns n ≡ (is_among start n || some_atom_of (atom_speaks_of n) fs)) → AreNamed (insert m fs) ns
named_insert m fs start ns e a = record { all = λ n. a n ∙ ap (λ l. is_among l n || some_atom_of (atom_speaks_of n) fs) e }

-- ---- names of formulas

-- what stands there before the formulas that are left, of all that are there
abbrev pub AreUnderWay : List Formula → List Formula → List (List ℕ) → List (List ℕ) → Type 0
AreUnderWay fs left start now = (n : List ℕ) → (is_among now n || some_atom_of (atom_speaks_of n) (forms left)) ≡ (is_among start n || some_atom_of (atom_speaks_of n) (forms fs))

-- with one formula more
pub way_further : (fs : List Formula) (i : ℕ) (f : Formula) (start now spoken next : List (List ℕ)) → i < length fs → f ≡ get_or fs i f → AreMentions spoken (form f) → next ≡ now ++ spoken
    → AreUnderWay fs (drop i fs) start now → AreUnderWay fs (drop (i + 1) fs) start next
way_further fs i f start now spoken next lt is a e w n =
    ap (λ l. is_among l n || some_atom_of (atom_speaks_of n) (forms (drop (i + 1) fs))) e
    ∙ ap (λ b. b || some_atom_of (atom_speaks_of n) (forms (drop (i + 1) fs))) (list_any-append (bytes_eq n) now spoken)
    ∙ or_assoc (is_among now n) (is_among spoken n) (some_atom_of (atom_speaks_of n) (forms (drop (i + 1) fs)))
    ∙ ap (λ b. is_among now n || (b || some_atom_of (atom_speaks_of n) (forms (drop (i + 1) fs)))) (a.all n)
    ∙ ap (λ x. is_among now n || (speaks_of n (form x) || some_atom_of (atom_speaks_of n) (forms (drop (i + 1) fs)))) is
    ∙ ap (λ b. is_among now n || b) (sym (at_drop_more (λ gs. some_atom_of (atom_speaks_of n) (forms gs)) fs i f lt))
    ∙ w n

-- with none left
pub way_end : (fs left : List Formula) (start now : List (List ℕ)) → left ≡ [] → AreUnderWay fs left start now → (n : List ℕ) → is_among now n ≡ (is_among start n || some_atom_of (atom_speaks_of n) (forms fs))
way_end fs left start now e w n = sym (or-false (is_among now n)) ∙ ap (λ gs. is_among now n || some_atom_of (atom_speaks_of n) (forms gs)) (sym e) ∙ w n

-- ---- changed names

-- of a view that is defined
pub view_changed : (m : List ℕ) (f : Form) (spoken ns : List (List ℕ)) → AreMentions spoken f → ns ≡ spoken ++ m ∷ [] → (n : List ℕ) → is_among ns n ≡ (bytes_eq m n || speaks_of n f)
view_changed m f spoken ns a e n =
    ap (λ l. is_among l n) e
    ∙ among_more spoken m n
    ∙ or_comm (is_among spoken n) (bytes_eq n m)
    ∙ ap (λ b. bytes_eq n m || b) (a.all n)
    ∙ ap (λ b. b || speaks_of n f) (bytes_eq-swap n m)
