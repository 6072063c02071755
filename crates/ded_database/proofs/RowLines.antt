-- Lines of atoms, gone through one after another.
use Rattle.std.proofs.Common.{◌≡◌, ℕ, zero, suc, ◌+◌, ◌<◌, Bool, true, false, inl, inr, List, [], ◌∷◌, ◌++◌, length, take, get_or, arith, sym, ap, ◌∙◌, subst, append_assoc, append-nil, true≢false}
use Rattle.std.specs.List.{list_any}
use Rattle.std.specs.Cmp.{IsEquivalence}
use Rattle.ded_model.specs.declared.slot.Slot.{Slot}
use Rattle.ded_model.specs.declared.tuple.BothAtom.TheVariants.{First}
use Rattle.ded_model.specs.Constraint.{LinearConstraint}
use Rattle.ded_model.specs.Lines.{Line, In, IsSubset, row_lines, atoms_lines, tuples_lines}
use Rattle.ded_model.specs.Renaming.{IsOneToOne, KeepsSorts, mapped_lines}
use Rattle.ded_model.specs.Row.{Atom, row_mentions, atom_mentions, tuple_mentions}
use Rattle.ded_model.proofs.Bools.{or_false_left, or_false_right}
use Rattle.ded_model.proofs.Members.{In-left, In-right, In-split, or_split}
use Rattle.ded_model.proofs.Rows.{or_left, or_right}
use Rattle.ded_model.proofs.TupleLists.{tuples_lines-push}
use Rattle.ded_genrel.proofs.Items.{done_to}
use Rattle.ded_genrel.proofs.Renamed.{mapped_lines-append}
use Rattle.ded_atoms.proofs.TuplesRead.{tuple_mentions-push, atoms_lines-append}
use Rattle.ded_database.specs.Lost.{AreApartLines, AreLeftWithout}

-- ---- slots

-- what an atom mentions, its tuple does
pub mentions_at : (t : List Atom) (i : ℕ) (a : Atom) (r : LinearConstraint) (s : Slot) → i < length t → a ≡ get_or t i a → a ≡ First r → row_mentions r s ≡ true → tuple_mentions t s ≡ true
unfolding tuple_mentions atom_mentions
mentions_at [] i a r s l e f h = absurd (omega (arith, l))
mentions_at (x ∷ t) zero a r s l e f h = or_left (atom_mentions x s) (tuple_mentions t s) (subst (λ y. atom_mentions y s ≡ true) (sym f ∙ e) h)
mentions_at (x ∷ t) (suc i) a r s l e f h = or_right (atom_mentions x s) (tuple_mentions t s) (mentions_at t i a r s (omega (arith, l)) e f h)

pub apart_at : (map : List (Slot × Slot)) (t : List Atom) (i : ℕ) (a : Atom) (r : LinearConstraint) → i < length t → a ≡ get_or t i a → a ≡ First r → IsOneToOne map (tuple_mentions t) → IsOneToOne map (row_mentions r)
apart_at map t i a r l e f k = record { apart = λ s u h j same. k.apart s u (mentions_at t i a r s l e f h) (mentions_at t i a r u l e f j) same }

pub sorts_at : (map : List (Slot × Slot)) (t : List Atom) (i : ℕ) (a : Atom) (r : LinearConstraint) → i < length t → a ≡ get_or t i a → a ≡ First r → KeepsSorts map (tuple_mentions t) → KeepsSorts map (row_mentions r)
sorts_at map t i a r l e f k = record { sort = λ s h. k.sort s (mentions_at t i a r s l e f h) }

-- ---- lines that are added

-- those of the next atom
pub lines_next : (map : List (Slot × Slot)) (old now new : List Line) (t : List Atom) (i : ℕ) (a : Atom) → i < length t → a ≡ get_or t i a → new ≡ now ++ mapped_lines map (atoms_lines (a ∷ []))
    → now ≡ old ++ mapped_lines map (atoms_lines (take i t)) → new ≡ old ++ mapped_lines map (atoms_lines (take (i + 1) t))
lines_next map old now new t i a l e f k =
    f ∙ ap (λ ls. ls ++ mapped_lines map (atoms_lines (a ∷ []))) k ∙ append_assoc old (mapped_lines map (atoms_lines (take i t))) (mapped_lines map (atoms_lines (a ∷ [])))
    ∙ ap (λ ls. old ++ ls) (sym (ap (λ u. mapped_lines map (atoms_lines u)) (done_to t i a l e) ∙ ap (mapped_lines map) (atoms_lines-append (take i t) (a ∷ [])) ∙ mapped_lines-append map (atoms_lines (take i t)) (atoms_lines (a ∷ []))))

-- a row has its lines alone
pub lines_alone : (a : Atom) (r : LinearConstraint) → a ≡ First r → atoms_lines (a ∷ []) ≡ row_lines r
lines_alone a r e = ap (λ x. atoms_lines (x ∷ [])) e ∙ append-nil (row_lines r)

-- ---- lines apart

-- no line that equals one of a list is none of it
not_among : (eq : Line → Line → Bool) → IsEquivalence eq → (ms : List Line) (l : Line) → list_any (λ m. eq m l) ms ≡ false → In l ms → ⊥
not_among eq laws [] l e i = i
not_among eq laws (m ∷ ms) l e (inl i) = true≢false (sym (laws.refl l) ∙ ap (λ x. eq x l) i ∙ or_false_left (eq m l) (list_any (λ x. eq x l) ms) e)
not_among eq laws (m ∷ ms) l e (inr i) = not_among eq laws ms l (or_false_right (eq m l) (list_any (λ x. eq x l) ms) e) i

pub apart_one : (eq : Line → Line → Bool) → IsEquivalence eq → (ls ms : List Line) (l : Line) → ls ≡ l ∷ [] → list_any (λ m. eq m l) ms ≡ false → AreApartLines ls ms
apart_one eq laws ls ms l is e = λ x i j. elim (subst (In x) is i) [ inl f ↦ not_among eq laws ms l e (subst (λ y. In y ms) f j) | inr f ↦ f ]

-- one more atom
pub apart_atom : (t : List Atom) (i : ℕ) (a : Atom) (ms : List Line) → i < length t → a ≡ get_or t i a → AreApartLines (atoms_lines (a ∷ [])) ms → AreApartLines (atoms_lines (take i t)) ms → AreApartLines (atoms_lines (take (i + 1) t)) ms
apart_atom t i a ms l e h k = λ x j m. elim (In-split x (atoms_lines (take i t)) (atoms_lines (a ∷ [])) (subst (In x) (ap atoms_lines (done_to t i a l e) ∙ atoms_lines-append (take i t) (a ∷ [])) j)) [
  | inl y ↦ k x y m
  | inr y ↦ h x y m
]

-- one more tuple
pub apart_tuple : (ts : List (List Atom)) (i : ℕ) (t : List Atom) (ms : List Line) → i < length ts → t ≡ get_or ts i t → AreApartLines (atoms_lines t) ms → AreApartLines (tuples_lines (take i ts)) ms → AreApartLines (tuples_lines (take (i + 1) ts)) ms
apart_tuple ts i t ms l e h k = λ x j m. elim (In-split x (tuples_lines (take i ts)) (atoms_lines t) (subst (In x) (ap tuples_lines (done_to ts i t l e) ∙ tuples_lines-push (take i ts) t) j)) [
  | inl y ↦ k x y m
  | inr y ↦ h x y m
]

-- ---- lines that are among others

-- a line that equals one of a list is one of it
among : (eq : Line → Line → Bool) → ((l m : Line) → eq l m ≡ true → l ≡ m) → (ms : List Line) (l : Line) → list_any (λ m. eq m l) ms ≡ true → In l ms
among eq same [] l e = absurd (true≢false (sym e))
among eq same (m ∷ ms) l e = elim (or_split (eq m l) (list_any (λ x. eq x l) ms) e) [ inl f ↦ inl (sym (same m l f)) | inr f ↦ inr (among eq same ms l f) ]

pub among_one : (eq : Line → Line → Bool) → ((l m : Line) → eq l m ≡ true → l ≡ m) → (ls ms : List Line) (l : Line) → ls ≡ l ∷ [] → list_any (λ m. eq m l) ms ≡ true → IsSubset ls ms
among_one eq same ls ms l is e = λ x i. elim (subst (In x) is i) [ inl f ↦ subst (λ y. In y ms) (sym f) (among eq same ms l e) | inr f ↦ absurd f ]

-- all lines of one more atom
pub own_next : (now new : List Line) (t : List Atom) (i : ℕ) (a : Atom) → i < length t → a ≡ get_or t i a → new ≡ now ++ atoms_lines (a ∷ []) → now ≡ atoms_lines (take i t) → new ≡ atoms_lines (take (i + 1) t)
own_next now new t i a l e f k = f ∙ ap (λ ls. ls ++ atoms_lines (a ∷ [])) k ∙ sym (ap atoms_lines (done_to t i a l e) ∙ atoms_lines-append (take i t) (a ∷ []))

-- ---- atoms that are left without the lines of a tuple

pub left_none : (t : List Atom) → AreLeftWithout t [] []
left_none t = record { slots = λ s e. e; of = λ l i. i; lines = λ l i. absurd i }

pub left_kept : (t done left new : List Atom) (a : Atom) → new ≡ left ++ a ∷ [] → AreLeftWithout t done left → AreLeftWithout t (done ++ a ∷ []) new
left_kept t done left new a e k = subst (AreLeftWithout t (done ++ a ∷ [])) (sym e) (record {
  slots = λ s h. tuple_mentions-push done a s ∙ elim (or_split (tuple_mentions left s) (atom_mentions a s) (sym (tuple_mentions-push left a s) ∙ h)) [
    | inl f ↦ or_left (tuple_mentions done s) (atom_mentions a s) (k.slots s f)
    | inr f ↦ or_right (tuple_mentions done s) (atom_mentions a s) f
  ];
  of = λ l i. subst (In l) (sym (atoms_lines-append done (a ∷ []))) (elim (In-split l (atoms_lines left) (atoms_lines (a ∷ [])) (subst (In l) (atoms_lines-append left (a ∷ [])) i)) [
    | inl f ↦ In-left l (atoms_lines done) (atoms_lines (a ∷ [])) (k.of l f)
    | inr f ↦ In-right l (atoms_lines done) (atoms_lines (a ∷ [])) f
  ]);
  lines = λ l i. elim (In-split l (atoms_lines done) (atoms_lines (a ∷ [])) (subst (In l) (atoms_lines-append done (a ∷ [])) i)) [
    | inl f ↦ elim (In-split l (atoms_lines left) (atoms_lines t) (k.lines l f)) [
      | inl g ↦ In-left l (atoms_lines (left ++ a ∷ [])) (atoms_lines t) (subst (In l) (sym (atoms_lines-append left (a ∷ []))) (In-left l (atoms_lines left) (atoms_lines (a ∷ [])) g))
      | inr g ↦ In-right l (atoms_lines (left ++ a ∷ [])) (atoms_lines t) g
    ]
    | inr f ↦ In-left l (atoms_lines (left ++ a ∷ [])) (atoms_lines t) (subst (In l) (sym (atoms_lines-append left (a ∷ []))) (In-right l (atoms_lines left) (atoms_lines (a ∷ [])) f))
  ];
})

pub left_dropped : (t done left : List Atom) (a : Atom) → IsSubset (atoms_lines (a ∷ [])) (atoms_lines t) → AreLeftWithout t done left → AreLeftWithout t (done ++ a ∷ []) left
left_dropped t done left a h k = record {
  slots = λ s e. tuple_mentions-push done a s ∙ or_left (tuple_mentions done s) (atom_mentions a s) (k.slots s e);
  of = λ l i. subst (In l) (sym (atoms_lines-append done (a ∷ []))) (In-left l (atoms_lines done) (atoms_lines (a ∷ [])) (k.of l i));
  lines = λ l i. elim (In-split l (atoms_lines done) (atoms_lines (a ∷ [])) (subst (In l) (atoms_lines-append done (a ∷ [])) i)) [
    | inl f ↦ k.lines l f
    | inr f ↦ In-right l (atoms_lines left) (atoms_lines t) (h l f)
  ];
}
