-- Conjunctions of atoms of two kinds: each is its two parts together.
use Rattle.std.proofs.Common.{◌≡◌, Bool, true, false, ◌&&◌, ◌||◌, List, [], ◌∷◌, ◌++◌, ◌⊎◌, inl, inr, ⊎_elim, refl, sym, ap, ◌∙◌}
use Rattle.std.proofs.Math.Bool.{and_assoc, or_assoc}
use Rattle.std.specs.List.{AllByRecursion}
use Rattle.ded_num.proofs.Tests.{and_swap_first, append_none}
use Rattle.ded_model.specs.declared.slot.Slot.{Slot}
use Rattle.ded_model.specs.declared.tuple.BothAtom.{BothAtom}
use Rattle.ded_model.specs.declared.tuple.BothAtom.TheVariants.{First, Second}
use Rattle.ded_model.specs.Point.{Point}
use Rattle.ded_model.specs.Cell.{conj_holds}
use Rattle.ded_model.specs.Lines.{Line, In, IsSubset}
use Rattle.ded_model.proofs.Members.{In-left, In-right, In-split}
use Rattle.ded_theory.specs.Conjunctions.{conj_mentions, conj_lines}
use Rattle.ded_theory.specs.Both.{by_kind, IsByKind, firsts, seconds}

-- ---- the parts of a conjunction

swap_or : (a b c : Bool) → (a || (b || c)) ≡ (b || (a || c))
swap_or true true c = refl
swap_or true false c = refl
swap_or false b c = refl

module _ {A B : Type 0} where
  pub firsts-append : (xs ys : List (BothAtom A B)) → firsts (xs ++ ys) ≡ firsts xs ++ firsts ys
  firsts-append [] ys = refl
  firsts-append (First a ∷ xs) ys = ap (λ zs. a ∷ zs) (firsts-append xs ys)
  firsts-append (Second b ∷ xs) ys = firsts-append xs ys

  pub seconds-append : (xs ys : List (BothAtom A B)) → seconds (xs ++ ys) ≡ seconds xs ++ seconds ys
  seconds-append [] ys = refl
  seconds-append (First a ∷ xs) ys = seconds-append xs ys
  seconds-append (Second b ∷ xs) ys = ap (λ zs. b ∷ zs) (seconds-append xs ys)

  -- it holds where both parts do
  pub parts_hold : (hA : A → Point → Bool) (hB : B → Point → Bool) (xs : List (BothAtom A B)) (p : Point)
      → conj_holds (by_kind hA hB) xs p ≡ (conj_holds hA (firsts xs) p && conj_holds hB (seconds xs) p)
  parts_hold hA hB [] p = refl
  parts_hold hA hB (First a ∷ xs) p = ap (λ b. hA a p && b) (parts_hold hA hB xs p) ∙ sym (and_assoc (hA a p) _ _)
  parts_hold hA hB (Second b ∷ xs) p = ap (λ c. hB b p && c) (parts_hold hA hB xs p) ∙ and_swap_first (hB b p) _ _

  -- it mentions what one of them does
  pub parts_mention : (mA : A → Slot → Bool) (mB : B → Slot → Bool) (xs : List (BothAtom A B)) (s : Slot)
      → conj_mentions (by_kind mA mB) xs s ≡ (conj_mentions mA (firsts xs) s || conj_mentions mB (seconds xs) s)
  parts_mention mA mB [] s = refl
  parts_mention mA mB (First a ∷ xs) s = ap (λ b. mA a s || b) (parts_mention mA mB xs s) ∙ sym (or_assoc (mA a s) _ _)
  parts_mention mA mB (Second b ∷ xs) s = ap (λ c. mB b s || c) (parts_mention mA mB xs s) ∙ swap_or (mB b s) _ _

  -- its atoms are normal where those of the parts are
  pub parts_normal : (nA : A → Type 0) (nB : B → Type 0) (xs : List (BothAtom A B)) → AllByRecursion nA (firsts xs) → AllByRecursion nB (seconds xs) → AllByRecursion (IsByKind nA nB) xs
  parts_normal nA nB [] h k = tt
  parts_normal nA nB (First a ∷ xs) h k = (h.0, parts_normal nA nB xs h.1 k)
  parts_normal nA nB (Second b ∷ xs) h k = (k.0, parts_normal nA nB xs h k.1)

  pub firsts_normal : (nA : A → Type 0) (nB : B → Type 0) (xs : List (BothAtom A B)) → AllByRecursion (IsByKind nA nB) xs → AllByRecursion nA (firsts xs)
  firsts_normal nA nB [] h = tt
  firsts_normal nA nB (First a ∷ xs) h = (h.0, firsts_normal nA nB xs h.1)
  firsts_normal nA nB (Second b ∷ xs) h = firsts_normal nA nB xs h.1

  pub seconds_normal : (nA : A → Type 0) (nB : B → Type 0) (xs : List (BothAtom A B)) → AllByRecursion (IsByKind nA nB) xs → AllByRecursion nB (seconds xs)
  seconds_normal nA nB [] h = tt
  seconds_normal nA nB (First a ∷ xs) h = seconds_normal nA nB xs h.1
  seconds_normal nA nB (Second b ∷ xs) h = (h.0, seconds_normal nA nB xs h.1)

  module _ (lA : A → List Line) (lB : B → List Line) where
    -- its lines are those of the parts
    pub parts_lines : (xs : List (BothAtom A B)) (l : Line) → In l (conj_lines (by_kind lA lB) xs) → In l (conj_lines lA (firsts xs)) ⊎ In l (conj_lines lB (seconds xs))
    parts_lines [] l i = absurd i
    parts_lines (First a ∷ xs) l i = ⊎_elim
        (λ (j : In l (lA a)). inl (In-left l (lA a) (conj_lines lA (firsts xs)) j))
        (λ j. ⊎_elim (λ (k : In l (conj_lines lA (firsts xs))). inl (In-right l (lA a) (conj_lines lA (firsts xs)) k)) (λ k. inr k) (parts_lines xs l j))
        (In-split l (lA a) (conj_lines (by_kind lA lB) xs) i)
    parts_lines (Second b ∷ xs) l i = ⊎_elim
        (λ (j : In l (lB b)). inr (In-left l (lB b) (conj_lines lB (seconds xs)) j))
        (λ j. ⊎_elim (λ (k : In l (conj_lines lA (firsts xs))). inl k) (λ k. inr (In-right l (lB b) (conj_lines lB (seconds xs)) k)) (parts_lines xs l j))
        (In-split l (lB b) (conj_lines (by_kind lA lB) xs) i)

    pub first_lines : (xs : List (BothAtom A B)) → IsSubset (conj_lines lA (firsts xs)) (conj_lines (by_kind lA lB) xs)
    first_lines [] l i = absurd i
    first_lines (First a ∷ xs) l i = ⊎_elim
        (λ (j : In l (lA a)). In-left l (lA a) (conj_lines (by_kind lA lB) xs) j)
        (λ j. In-right l (lA a) (conj_lines (by_kind lA lB) xs) (first_lines xs l j))
        (In-split l (lA a) (conj_lines lA (firsts xs)) i)
    first_lines (Second b ∷ xs) l i = In-right l (lB b) (conj_lines (by_kind lA lB) xs) (first_lines xs l i)

    pub second_lines : (xs : List (BothAtom A B)) → IsSubset (conj_lines lB (seconds xs)) (conj_lines (by_kind lA lB) xs)
    second_lines [] l i = absurd i
    second_lines (First a ∷ xs) l i = In-right l (lA a) (conj_lines (by_kind lA lB) xs) (second_lines xs l i)
    second_lines (Second b ∷ xs) l i = ⊎_elim
        (λ (j : In l (lB b)). In-left l (lB b) (conj_lines (by_kind lA lB) xs) j)
        (λ j. In-right l (lB b) (conj_lines (by_kind lA lB) xs) (second_lines xs l j))
        (In-split l (lB b) (conj_lines lB (seconds xs)) i)

-- ---- loops

module _ {A B : Type 0} where
  -- one more of the first kind
  pub first_joined : (xs out : List (BothAtom A B)) (a : A) (ys : List A) (zs : List B) → out ≡ xs ++ First a ∷ [] → (firsts xs ≡ ys) × (seconds xs ≡ zs) → (firsts out ≡ ys ++ a ∷ []) × (seconds out ≡ zs)
  first_joined xs out a ys zs e h = (
    ap firsts e ∙ firsts-append xs (First a ∷ []) ∙ ap (λ ws. ws ++ a ∷ []) h.0,
    ap seconds e ∙ seconds-append xs (First a ∷ []) ∙ append_none (seconds xs) ∙ h.1,
  )

  -- one more of the second kind
  pub second_joined : (xs out : List (BothAtom A B)) (b : B) (ys : List A) (zs : List B) → out ≡ xs ++ Second b ∷ [] → (firsts xs ≡ ys) × (seconds xs ≡ zs) → (firsts out ≡ ys) × (seconds out ≡ zs ++ b ∷ [])
  second_joined xs out b ys zs e h = (
    ap firsts e ∙ firsts-append xs (Second b ∷ []) ∙ append_none (firsts xs) ∙ h.0,
    ap seconds e ∙ seconds-append xs (Second b ∷ []) ∙ ap (λ ws. ws ++ b ∷ []) h.1,
  )
