-- The answer to a look-up, from the numbers that a visit gathers.
use Rattle.std.proofs.Common.{◌≡◌, ℕ, zero, suc, ◌+◌, ◌*◌, ◌^◌, ◌<◌, ◌≤◌, Bool, true, false, cond, List, [], ◌∷◌, ◌++◌, length, get_or, ◌⊎◌, inl, inr, arith, refl, sym, subst, length-append}
use Rattle.std.specs.Prelude.{pos}
use lib.Dec.{eqb}
use Rattle.std.specs.List.{AllByRecursion, Contains, dedup}
use Rattle.std.specs.List.Sorted.{IsPermutation, IsSorted, IsStrictlyIncreasing}
use Rattle.std.specs.Ordering.{nat_cmp}
use Rattle.std.proofs.lemmas.Map.Keys.{IsStrictlyIncreasing-dedup}
use Rattle.std.proofs.lemmas.List.Kept.{Contains-dedup_nat, Contains-from_dedup}
use Rattle.std.proofs.lemmas.List.Sorted.{Contains-permutation, IsPermutation-sym}
use Rattle.ded_num.specs.Length.{length_of}
use Rattle.ded_num.proofs.Lengths.{within_length}
use Rattle.ded_box.specs.Boxes.{AreIntervals, Shared, boxes_meet}
use Rattle.ded_box.proofs.Shares.{boxes_meet-is}
use Rattle.ded_index.specs.declared.entry.BoxEntry.{BoxEntry}
use Rattle.ded_index.specs.declared.tree.BoxNode.{BoxNode}
use Rattle.ded_box.specs.Intervals.{has_value}
use Rattle.ded_index.specs.Entries.{Box, first_of, SomeEntry, ids_in, near_first, most_steps, AreFound}
use Rattle.ded_index.specs.Trees.{entries_of, AreSound, IsIndex}
use Rattle.ded_index.specs.Costs.{IsCost}
use Rattle.ded_index.proofs.Members.{all-weaker, some-left, some-all, near_first-append}
use Rattle.ded_index.proofs.Pruning.{IsFar, far_empty, far_found}

-- ---- steps

pub few_steps : (w : Box) (es apart : List BoxEntry) (s t : ℕ) → IsCost w es s t → t ≤ s + most_steps w (es ++ apart)
few_steps w es apart s t c =
    let d : ℕ = length_of (pos (length (es ++ apart))) in
    let low : length (es ++ apart) < 2 ^ d = within_length (pos (length (es ++ apart))) in
    let here : length es < 2 ^ d = at_most (length es) (length apart) (2 ^ d) (subst (λ n. n < 2 ^ d) (length-append es apart) low) in
    subst (λ k. t ≤ s + (2 * k + 2) * (d + 1)) (sym (near_first-append w es apart)) (enough (near_first w es) (near_first w apart) d s t (c.any d here))
  where
    at_most : (a b c : ℕ) → a + b < c → a < c
    at_most a b c h = omega arith

    enough : (a b d s t : ℕ) → t ≤ s + (2 * (a * d) + 2 * d) → t ≤ s + (2 * (a + b) + 2) * (d + 1)
    enough a b d s t h = omega arith

-- ---- numbers

-- the number is in the list
abbrev Has : List ℕ → ℕ → Type 0
Has [] i = ⊥
Has (x ∷ xs) i = (x ≡ i) ⊎ Has xs i

has_from : (xs : List ℕ) (i k : ℕ) → k < length xs → get_or xs k i ≡ i → Has xs i
has_from [] i k h e = absurd (omega (arith, h))
has_from (x ∷ xs) i zero h e = inl e
has_from (x ∷ xs) i (suc k) h e = inr (has_from xs i k (omega (arith, h)) e)

has_to : (xs : List ℕ) (i : ℕ) → Has xs i → Contains xs i
has_to [] i h = absurd h
has_to (x ∷ xs) i (inl e) = (zero, omega arith, e)
has_to (x ∷ xs) i (inr h) = let c = has_to xs i h in (suc c.0, omega (arith, c.1), c.2)

-- an entry with the number meets the window
abbrev Meets : Box → ℕ → BoxEntry → Type 0
Meets w i e = (e.id ≡ i) × (boxes_meet e.bounds w ≡ true)

has_later : (b : Bool) (x : ℕ) (xs : List ℕ) (i : ℕ) → Has xs i → Has (cond b (x ∷ xs) xs) i
has_later true x xs i h = inr h
has_later false x xs i h = h

has_split : (b : Bool) (x : ℕ) (xs : List ℕ) (i : ℕ) → Has (cond b (x ∷ xs) xs) i → ((x ≡ i) × (b ≡ true)) ⊎ Has xs i
has_split true x xs i (inl e) = inl (e, refl)
has_split true x xs i (inr h) = inr h
has_split false x xs i h = inr h

some_from : (w : Box) (es : List BoxEntry) (i : ℕ) → Has (ids_in w es) i → SomeEntry (Meets w i) es
some_from w [] i h = absurd h
some_from w (e ∷ es) i h = elim (has_split (boxes_meet e.bounds w) e.id (ids_in w es) i h) [ inl k ↦ inl k | inr k ↦ inr (some_from w es i k) ]

some_to : (w : Box) (es : List BoxEntry) (i : ℕ) → SomeEntry (Meets w i) es → Has (ids_in w es) i
some_to w [] i h = absurd h
some_to w (e ∷ es) i (inl k) = subst (λ b. Has (cond b (e.id ∷ ids_in w es) (ids_in w es)) i) (sym k.1) (inl k.0)
some_to w (e ∷ es) i (inr k) = has_later (boxes_meet e.bounds w) e.id (ids_in w es) i (some_to w es i k)

-- an entry with the number shares values with the window
abbrev Shares : Box → ℕ → BoxEntry → Type 0
Shares w i e = (e.id ≡ i) × Shared e.bounds w

-- those that stand apart share none
some_of_left : (P : BoxEntry → Type 0) (xs ys : List BoxEntry) → SomeEntry P (xs ++ ys) → SomeEntry P xs ⊎ SomeEntry P ys
some_of_left P [] ys h = inr h
some_of_left P (x ∷ xs) ys (inl h) = inl (inl h)
some_of_left P (x ∷ xs) ys (inr h) = elim (some_of_left P xs ys h) [ inl k ↦ inl (inr k) | inr k ↦ inr k ]

none_apart : (w : Box) (es : List BoxEntry) (i : ℕ) → AllByRecursion (IsFar w) es → Has (ids_in w es) i → ⊥
none_apart w es i far h = subst (λ xs. Has xs i) (far_found w es far) h

module _ (w : Box) (ns : List BoxNode) (es : List BoxEntry) (x : IsIndex ns es) (iw : AreIntervals w) where
  pub found_to : (i : ℕ) → Contains (ids_in w (entries_of ns)) i → SomeEntry (Shares w i) (entries_of ns ++ es)
  found_to i c = some-left (Shares w i) (entries_of ns) es
      (some-all (Meets w i) (λ e. AreIntervals e.bounds) (Shares w i) (entries_of ns) (λ e m s. (m.0, (boxes_meet-is e.bounds w s iw).0 m.1)) (some_from w (entries_of ns) i (has_from (ids_in w (entries_of ns)) i c.0 c.1 c.2)) x.tree.sound)

  meets_from : (ys : List BoxEntry) (i : ℕ) → AreSound ys → SomeEntry (Shares w i) ys → Has (ids_in w ys) i
  meets_from ys i s h = some_to w ys i (some-all (Shares w i) (λ e. AreIntervals e.bounds) (Meets w i) ys (λ e m a. (m.0, (boxes_meet-is e.bounds w a iw).1 m.1)) h s)

  pub found_from : (i : ℕ) → SomeEntry (Shares w i) (entries_of ns ++ es) → Contains (ids_in w (entries_of ns)) i
  found_from i h = has_to (ids_in w (entries_of ns)) i (elim (some_of_left (Shares w i) (entries_of ns) es h) [
    | inl k ↦ meets_from (entries_of ns) i x.tree.sound k
    | inr k ↦ absurd (none_apart w es i (all-weaker (λ e. has_value (first_of e.bounds) ≡ false) (IsFar w) es (λ e f. far_empty w e f) x.apart.empty) (meets_from es i x.apart.sound k))
  ])

-- the numbers in order, each once
pub answer : (w : Box) (ns : List BoxNode) (es view : List BoxEntry) → IsIndex ns es → AreIntervals w → entries_of ns ++ es ≡ view → (found sorted ids : List ℕ) → found ≡ ids_in w (entries_of ns) → IsPermutation found sorted → IsSorted nat_cmp sorted
    → ids ≡ dedup eqb sorted → AreFound w view ids
answer w ns es view x iw v found sorted ids e p s is = record {
  ascending = subst IsStrictlyIncreasing (sym is) (IsStrictlyIncreasing-dedup sorted s);
  exact = λ i. (
    λ c. subst (SomeEntry (Shares w i)) v (found_to w ns es x iw i (subst (λ xs. Contains xs i) e (Contains-permutation sorted found i (IsPermutation-sym found sorted p) (Contains-from_dedup eqb sorted i (subst (λ xs. Contains xs i) is c))))),
    λ h. subst (λ xs. Contains xs i) (sym is) (Contains-dedup_nat sorted i (Contains-permutation found sorted i p (subst (λ xs. Contains xs i) (sym e) (found_from w ns es x iw i (subst (SomeEntry (Shares w i)) (sym v) h))))),
  );
}
