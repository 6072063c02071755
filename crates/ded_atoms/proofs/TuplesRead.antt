-- Tuples read as conjunctions, atom by atom, and lists of tuples, tuple by tuple.
use Rattle.std.proofs.Common.{◌≡◌, ℕ, zero, suc, ◌<◌, Bool, ◌&&◌, ◌||◌, List, [], ◌∷◌, ◌++◌, length, get_or, arith, refl, sym, ap, ap₂, ◌∙◌, subst, append_assoc, append-nil}
use Rattle.std.proofs.Math.Bool.{and_assoc, or_assoc, or-false, and-true}
use Rattle.ded_model.specs.declared.slot.Slot.{Slot}
use Rattle.ded_model.specs.declared.tuple.BothAtom.TheVariants.{First, Second}
use Rattle.ded_model.specs.Point.{Point}
use Rattle.ded_model.specs.Row.{Atom, atom_holds, atom_mentions, tuple_holds, tuple_mentions, tuples_hold, tuples_mention}
use Rattle.ded_model.specs.Cell.{conj_holds}
use Rattle.ded_model.specs.Lines.{Line, IsSubset, row_lines, atoms_lines, tuples_lines}
use Rattle.ded_model.proofs.Members.{subset_append, subset_none}
use Rattle.ded_theory.specs.Conjunctions.{conj_mentions, conj_lines}
use Rattle.ded_theory.proofs.Conjunctions.{conj_holds-append, conj_mentions-append}
use Rattle.ded_genrel.specs.Lists.{conjs_lines}
use Rattle.ded_genrel.proofs.Laws.{conj_lines-append, conjs_hold-append, conjs_mention-append, conjs_lines-append}
use Rattle.std.specs.List.{AllByRecursion}
use Rattle.ded_model.proofs.TupleLists.{tuples_hold-push, tuples_lines-push}
use Rattle.ded_model.proofs.SlotLists.{tuples_mention-push}
use Rattle.ded_packed.specs.declared.lent.Lent.{Lent}
use Rattle.ded_packed.specs.Lent.{tuple_of, lent}
use Rattle.ded_atoms.specs.Reading.{StandsFor, IsConjunctionOf, IsListOf}

-- ---- one atom, or one tuple, more

pub tuple_holds-push : (t : List Atom) (b : Atom) (p : Point) → tuple_holds (t ++ b ∷ []) p ≡ (tuple_holds t p && atom_holds b p)
unfolding tuple_holds
tuple_holds-push [] b p = and-true (atom_holds b p)
tuple_holds-push (x ∷ t) b p = ap (λ z. atom_holds x p && z) (tuple_holds-push t b p) ∙ sym (and_assoc (atom_holds x p) _ _)

pub tuple_mentions-push : (t : List Atom) (b : Atom) (s : Slot) → tuple_mentions (t ++ b ∷ []) s ≡ (tuple_mentions t s || atom_mentions b s)
unfolding tuple_mentions
tuple_mentions-push [] b s = or-false (atom_mentions b s)
tuple_mentions-push (x ∷ t) b s = ap (λ z. atom_mentions x s || z) (tuple_mentions-push t b s) ∙ sym (or_assoc (atom_mentions x s) _ _)

pub atoms_lines-append : (t u : List Atom) → atoms_lines (t ++ u) ≡ atoms_lines t ++ atoms_lines u
atoms_lines-append [] u = refl
atoms_lines-append (First r ∷ t) u = ap (λ ls. row_lines r ++ ls) (atoms_lines-append t u) ∙ sym (append_assoc (row_lines r) (atoms_lines t) (atoms_lines u))
atoms_lines-append (Second a ∷ t) u = atoms_lines-append t u

-- ---- what they are made of

-- what is so of all tuples behind references is so of each
pub lent_at : (P : List Atom → Type 0) (us : List Lent) (i : ℕ) (u : Lent) → i < length us → u ≡ get_or us i u → AllByRecursion P (lent us) → P (tuple_of u)
lent_at P [] i u l e k = absurd (omega (arith, l))
lent_at P (v ∷ us) zero u l e k = subst (λ (x : Lent). P (tuple_of x)) (sym e) k.0
lent_at P (v ∷ us) (suc i) u l e k = lent_at P us i u (omega (arith, l)) e k.1

module _ {A : Type 0} (h : A → Point → Bool) (m : A → Slot → Bool) (l : A → List Line) where
  -- the tuple without atoms
  pub conjunction_none : IsConjunctionOf h m l [] []
  unfolding tuple_holds tuple_mentions
  conjunction_none = record { holds = λ p. refl; slots = λ s. refl; lines = subset_none [] }

  -- one atom more
  pub conjunction_more : (c c' : List A) (t t' : List Atom) (a : A) (b : Atom) → c' ≡ c ++ a ∷ [] → t' ≡ t ++ b ∷ [] → IsConjunctionOf h m l c t → StandsFor h m l a b → IsConjunctionOf h m l c' t'
  conjunction_more c c' t t' a b e f k s = subst (λ x. IsConjunctionOf h m l x t') (sym e) (subst (IsConjunctionOf h m l (c ++ a ∷ [])) (sym f) (record {
    holds = λ p. conj_holds-append h c (a ∷ []) p ∙ ap₂ (λ x y. x && y) (k.holds p) (and-true (h a p) ∙ s.holds p) ∙ sym (tuple_holds-push t b p);
    slots = λ u. conj_mentions-append m c (a ∷ []) u ∙ ap₂ (λ x y. x || y) (k.slots u) (or-false (m a u) ∙ s.slots u) ∙ sym (tuple_mentions-push t b u);
    lines = subst (λ ls. IsSubset ls (atoms_lines (t ++ b ∷ []))) (sym (conj_lines-append l c (a ∷ [])))
        (subst (IsSubset (conj_lines l c ++ conj_lines l (a ∷ []))) (sym (atoms_lines-append t (b ∷ [])))
        (subset_append (conj_lines l c) (conj_lines l (a ∷ [])) (atoms_lines t) (atoms_lines (b ∷ [])) k.lines (subst (λ ls. IsSubset ls (atoms_lines (b ∷ []))) (sym (append-nil (l a))) s.lines)));
  }))

  -- the empty list of tuples
  pub list_none : IsListOf h m l [] []
  unfolding tuples_hold tuples_mention
  list_none = record { holds = λ p. refl; slots = λ s. refl; lines = subset_none [] }

  -- one tuple more
  pub list_more : (cs cs' : List (List A)) (ts ts' : List (List Atom)) (c : List A) (t : List Atom) → cs' ≡ cs ++ c ∷ [] → ts' ≡ ts ++ t ∷ [] → IsListOf h m l cs ts → IsConjunctionOf h m l c t → IsListOf h m l cs' ts'
  list_more cs cs' ts ts' c t e f k s = subst (λ x. IsListOf h m l x ts') (sym e) (subst (IsListOf h m l (cs ++ c ∷ [])) (sym f) (record {
    holds = λ p. conjs_hold-append h cs (c ∷ []) p ∙ ap₂ (λ x y. x || y) (k.holds p) (or-false (conj_holds h c p) ∙ s.holds p) ∙ sym (tuples_hold-push ts t p);
    slots = λ u. conjs_mention-append m cs (c ∷ []) u ∙ ap₂ (λ x y. x || y) (k.slots u) (or-false (conj_mentions m c u) ∙ s.slots u) ∙ sym (tuples_mention-push ts t u);
    lines = subst (λ ls. IsSubset ls (tuples_lines (ts ++ t ∷ []))) (sym (conjs_lines-append l cs (c ∷ [])))
        (subst (IsSubset (conjs_lines l cs ++ conjs_lines l (c ∷ []))) (sym (tuples_lines-push ts t))
        (subset_append (conjs_lines l cs) (conjs_lines l (c ∷ [])) (tuples_lines ts) (atoms_lines t) k.lines (subst (λ ls. IsSubset ls (atoms_lines t)) (sym (append-nil (conj_lines l c))) s.lines)));
  }))
