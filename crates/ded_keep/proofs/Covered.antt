-- Tuples put behind a list: what holds of the list with one more of them.
use Rattle.std.proofs.Common.{◌≡◌, ℕ, zero, suc, ◌+◌, ◌<◌, true, false, ◌||◌, ◌&&◌, List, [], ◌∷◌, ◌++◌, length, take, drop, get_or, arith, inl, inr, refl, sym, ap, ◌∙◌, subst, append_assoc, append-nil}
use Rattle.std.specs.List.{AllByRecursion}
use Rattle.std.proofs.Math.Bool.{or-false}
use Rattle.std.proofs.lemmas.List.{take-append-drop}
use Rattle.ded_model.specs.declared.slot.Slot.{Slot}
use Rattle.ded_model.specs.Lines.{In, IsSubset, atoms_lines, tuples_lines}
use Rattle.ded_model.specs.Normal.{IsNormalTuple}
use Rattle.ded_model.specs.Point.{Point, IsPoint}
use Rattle.ded_model.specs.Row.{Atom, tuple_holds, tuple_mentions, tuples_hold, tuples_mention}
use Rattle.ded_model.proofs.Bools.{or_known, or_assoc}
use Rattle.ded_model.proofs.Members.{In-left, or_split, subset_append, subset_refl}
use Rattle.ded_model.proofs.Points.{and_right}
use Rattle.ded_model.proofs.Rows.{or_left, or_right}
use Rattle.ded_model.proofs.TupleLists.{none_hold, tuples_hold-push, tuples_lines-push}
use Rattle.ded_model.proofs.SlotLists.{tuples_mention-push}
use Rattle.ded_ranges.proofs.Taken.{taken_more}
use Rattle.ded_keep.specs.Behind.{IsPartOf, IsCovered, IsPutBehind}
use Rattle.ded_keep.proofs.Appended.{tuples_hold-append}

-- ---- one tuple more

single_holds : (t : List Atom) (p : Point) → tuples_hold (t ∷ []) p ≡ tuple_holds t p
unfolding tuples_hold
single_holds t p = or-false (tuple_holds t p)

single_mentions : (t : List Atom) (s : Slot) → tuples_mention (t ∷ []) s ≡ tuple_mentions t s
unfolding tuples_mention
single_mentions t s = or-false (tuple_mentions t s)

pub none_mention : (s : Slot) → tuples_mention [] s ≡ false
unfolding tuples_mention
none_mention s = refl

-- ---- what is so of each

pub all-more : (P : List Atom → Type 0) (xs : List (List Atom)) (x : List Atom) → AllByRecursion P xs → P x → AllByRecursion P (xs ++ x ∷ [])
all-more P [] x h k = (k, tt)
all-more P (y ∷ xs) x h k = (h.0, all-more P xs x h.1 k)

pub all-front : (P : List Atom → Type 0) (xs : List (List Atom)) (x : List Atom) → AllByRecursion P (xs ++ x ∷ []) → AllByRecursion P xs
all-front P [] x h = tt
all-front P (y ∷ xs) x h = (h.0, all-front P xs x h.1)

pub all-last : (P : List Atom → Type 0) (xs : List (List Atom)) (x : List Atom) → AllByRecursion P (xs ++ x ∷ []) → P x
all-last P [] x h = h.0
all-last P (y ∷ xs) x h = all-last P xs x h.1

pub all-both : (P : List Atom → Type 0) (xs ys : List (List Atom)) → AllByRecursion P xs → AllByRecursion P ys → AllByRecursion P (xs ++ ys)
all-both P [] ys h k = k
all-both P (x ∷ xs) ys h k = (h.0, all-both P xs ys h.1 k)

-- ---- the list, and a rest behind it

pub behind_none : (list : List (List Atom)) → IsPutBehind list [] list
behind_none list = record {
  rest = [];
  is = sym (append-nil list);
  holds = λ p i. sym (or-false (tuples_hold list p)) ∙ ap (λ b. tuples_hold list p || b) (sym (none_hold p));
  slots = λ s u. u;
  lines = subset_refl [];
  normal = λ h. h;
}

pub behind_more : (list done now new : List (List Atom)) (t : List Atom) → new ≡ now ++ t ∷ [] → IsPutBehind list done now → IsPutBehind list (done ++ t ∷ []) new
behind_more list done now new t e k = record {
  rest = k.rest ++ t ∷ [];
  is = e ∙ ap (λ xs. xs ++ t ∷ []) k.is ∙ append_assoc list k.rest (t ∷ []);
  holds = λ p i.
      ap (λ ts. tuples_hold ts p) e ∙ tuples_hold-push now t p ∙ ap (λ b. b || tuple_holds t p) (k.holds p i)
      ∙ or_assoc (tuples_hold list p) (tuples_hold done p) (tuple_holds t p) ∙ ap (λ b. tuples_hold list p || b) (sym (tuples_hold-push done t p));
  slots = λ s u. tuples_mention-push done t s ∙ elim (or_split _ _ (sym (tuples_mention-push k.rest t s) ∙ u)) [
    | inl a ↦ or_left _ _ (k.slots s a)
    | inr b ↦ or_right (tuples_mention done s) _ b
  ];
  lines = subst (λ ls. IsSubset ls (tuples_lines (done ++ t ∷ []))) (sym (tuples_lines-push k.rest t))
      (subst (IsSubset (tuples_lines k.rest ++ atoms_lines t)) (sym (tuples_lines-push done t)) (subset_append _ _ _ _ k.lines (subset_refl (atoms_lines t))));
  normal = λ h. all-more IsNormalTuple k.rest t (k.normal (all-front IsNormalTuple done t h)) (all-last IsNormalTuple done t h);
}

pub behind_covered : (list done now : List (List Atom)) (t : List Atom) → IsCovered t now → IsPutBehind list done now → IsPutBehind list (done ++ t ∷ []) now
behind_covered list done now t c k = record {
  rest = k.rest;
  is = k.is;
  holds = λ p i.
      or_known (tuples_hold now p) (tuple_holds t p) (c p i) ∙ ap (λ b. b || tuple_holds t p) (k.holds p i)
      ∙ or_assoc (tuples_hold list p) (tuples_hold done p) (tuple_holds t p) ∙ ap (λ b. tuples_hold list p || b) (sym (tuples_hold-push done t p));
  slots = λ s u. tuples_mention-push done t s ∙ or_left _ _ (k.slots s u);
  lines = λ l i. subst (λ ls. In l ls) (sym (tuples_lines-push done t)) (In-left l (tuples_lines done) (atoms_lines t) (k.lines l i));
  normal = λ h. k.normal (all-front IsNormalTuple done t h);
}

-- ---- covered tuples

-- two tuples whose tuple of both is the first one
pub part_by : (t u both : List Atom) → ((p : Point) → IsPoint p → tuple_holds both p ≡ (tuple_holds t p && tuple_holds u p)) → both ≡ t → IsPartOf t u
part_by t u both holds e = λ p i h. and_right (tuple_holds t p) _ (sym (holds p i) ∙ ap (λ x. tuple_holds x p) e ∙ h)

-- ---- lists that are gone through

-- what is done ends with the tuple
pub taken_to : (ts : List (List Atom)) (i : ℕ) (t : List Atom) → i < length ts → t ≡ get_or ts i t → take (i + 1) ts ≡ take i ts ++ t ∷ []
taken_to ts i t h e = taken_more ts i t h ∙ ap (λ y. take i ts ++ y ∷ []) (sym e)

-- a tuple of the list holds only where the list does
pub hold-at : (ts : List (List Atom)) (i : ℕ) (t : List Atom) → i < length ts → t ≡ get_or ts i t → (p : Point) → tuple_holds t p ≡ true → tuples_hold ts p ≡ true
unfolding tuples_hold
hold-at [] i t l e p h = absurd (omega (arith, l))
hold-at (u ∷ ts) zero t l e p h = or_left (tuple_holds u p) _ (subst (λ x. tuple_holds x p ≡ true) e h)
hold-at (u ∷ ts) (suc i) t l e p h = or_right (tuple_holds u p) _ (hold-at ts i t (omega (arith, l)) e p h)

-- what a part of the list covers, the list does
pub covered_front : (t : List Atom) (ts : List (List Atom)) (i : ℕ) → IsCovered t (take i ts) → IsCovered t ts
covered_front t ts i k = λ p j h. ap (λ us. tuples_hold us p) (sym (take-append-drop i ts)) ∙ tuples_hold-append (take i ts) (drop i ts) p ∙ or_left (tuples_hold (take i ts) p) (tuples_hold (drop i ts) p) (k p j h)

pub covered_back : (t : List Atom) (ts : List (List Atom)) (i : ℕ) → IsCovered t (drop i ts) → IsCovered t ts
covered_back t ts i k = λ p j h. ap (λ us. tuples_hold us p) (sym (take-append-drop i ts)) ∙ tuples_hold-append (take i ts) (drop i ts) p ∙ or_right (tuples_hold (take i ts) p) (tuples_hold (drop i ts) p) (k p j h)
