-- Entries under the places of the conjunctions.
use Rattle.std.proofs.Common.{◌≡◌, ℕ, zero, suc, ◌+◌, ◌<◌, Bool, List, [], ◌∷◌, ◌++◌, length, get_or, inl, inr, arith, refl, sym, ap, ◌∙◌, subst}
use Rattle.std.specs.List.{AllByRecursion, Contains}
use Rattle.std.specs.List.Sorted.{IsPermutation}
use Rattle.std.proofs.lemmas.List.Elements.{All-from_recursion, recursion_from_All}
use Rattle.std.proofs.lemmas.List.Sorted.{All-permutation, Contains-permutation}
use Rattle.ded_model.specs.declared.slot.Slot.{Slot}
use Rattle.ded_model.specs.Point.{Point}
use Rattle.ded_model.specs.Lines.{Line}
use Rattle.ded_index.specs.declared.entry.BoxEntry.{BoxEntry}
use Rattle.ded_index.specs.Entries.{Box, SomeEntry, numbered}
use Rattle.ded_genrel.specs.Rounds.{IsRound, IsBoxOf}
use Rattle.ded_join.specs.Picks.{AreBoxesOf, IsIndexOf}

some_at : (P : BoxEntry → Type 0) (es : List BoxEntry) (e : BoxEntry) (k : ℕ) → k < length es → get_or es k e ≡ e → P e → SomeEntry P es
some_at P [] e k l h p = absurd (omega (arith, l))
some_at P (x ∷ es) e zero l h p = inl (subst P (sym h) p)
some_at P (x ∷ es) e (suc k) l h p = inr (some_at P es e k (omega (arith, l)) h p)

-- what is so of some entry, with its place
record Found (P : BoxEntry → Type 0) (es : List BoxEntry) : Type 0 where
  entry : BoxEntry
  place : Contains es entry
  is : P entry

found : (P : BoxEntry → Type 0) (es : List BoxEntry) → SomeEntry P es → Found P es
found P [] h = absurd h
found P (x ∷ es) (inl p) = record { entry = x; place = (zero, omega arith, refl); is = p }
found P (x ∷ es) (inr h) = let f = found P es h in record { entry = f.entry; place = (suc f.place.0, omega (arith, f.place.1), f.place.2); is = f.is }

some_moved : (P : BoxEntry → Type 0) (xs ys : List BoxEntry) → IsPermutation xs ys → SomeEntry P xs → SomeEntry P ys
some_moved P xs ys m h = let f = found P xs h in let c = Contains-permutation xs ys f.entry m f.place in some_at P ys f.entry c.0 c.1 c.2 f.is

module _ {A : Type 0} (h : A → Point → Bool) (m : A → Slot → Bool) (l : A → List Line) (ss : List Slot) where
  numbered_each : (k : ℕ) (cs : List (List A)) (xs : List Box) (j : ℕ) → AreBoxesOf h m l ss cs xs → j < length cs → SomeEntry (λ e. (e.id ≡ k + j) × IsRound h ss (get_or cs j []) e.bounds) (numbered k xs)
  numbered_each k [] xs j r lt = absurd (omega (arith, lt))
  numbered_each k (c ∷ cs) [] j r lt = absurd r
  numbered_each k (c ∷ cs) (x ∷ xs) zero r lt = inl (omega arith, r.0.round)
  numbered_each k (c ∷ cs) (x ∷ xs) (suc j) r lt = inr (subst (λ n. SomeEntry (λ e. (e.id ≡ n) × IsRound h ss (get_or cs j []) e.bounds) (numbered (k + 1) xs)) (next k j) (numbered_each (k + 1) cs xs j r.1 (omega (arith, lt))))
    where
      next : (k j : ℕ) → k + 1 + j ≡ k + suc j
      next k j = omega arith

  -- the list at its places from k on
  abbrev FromPlace : List (List A) → ℕ → List (List A) → Type 0
  FromPlace all k cs = (j : ℕ) → j < length cs → get_or all (k + j) [] ≡ get_or cs j []

  from_next : (all : List (List A)) (k : ℕ) (c : List A) (cs : List (List A)) → FromPlace all k (c ∷ cs) → FromPlace all (k + 1) cs
  from_next all k c cs f j lt = ap (λ n. get_or all n []) (next k j) ∙ f (suc j) (omega (arith, lt))
    where
      next : (k j : ℕ) → k + 1 + j ≡ k + suc j
      next k j = omega arith

  -- an entry under the place of a conjunction of which it has a box
  abbrev Own : List (List A) → BoxEntry → Type 0
  Own all e = (e.id < length all) × IsBoxOf h m l ss (get_or all e.id []) e.bounds

  numbered_own : (all : List (List A)) (k : ℕ) (cs : List (List A)) (xs : List Box) → AreBoxesOf h m l ss cs xs → FromPlace all k cs → k + length cs ≡ length all → AllByRecursion (Own all) (numbered k xs)
  numbered_own all k [] [] r f e = tt
  numbered_own all k [] (x ∷ xs) r f e = absurd r
  numbered_own all k (c ∷ cs) [] r f e = absurd r
  numbered_own all k (c ∷ cs) (x ∷ xs) r f e = (
    (below k (length all) (length cs) e, subst (λ d. IsBoxOf h m l ss d x) (sym (f zero (omega arith)) ∙ ap (λ n. get_or all n []) (none k)) r.0),
    numbered_own all (k + 1) cs xs r.1 (from_next all k c cs f) (next k (length all) (length cs) e),
  )
    where
      none : (k : ℕ) → k + zero ≡ k
      none k = omega arith

      below : (k n m : ℕ) → k + suc m ≡ n → k < n
      below k n m e = omega arith

      next : (k n m : ℕ) → k + suc m ≡ n → k + 1 + m ≡ n
      next k n m e = omega arith

  pub index_is : (cs : List (List A)) (xs : List Box) (es : List BoxEntry) → AreBoxesOf h m l ss cs xs → IsPermutation (numbered 0 xs) es → IsIndexOf h m l ss cs es
  index_is cs xs es r p = record {
    each = λ j lt. some_moved (λ e. (e.id ≡ j) × IsRound h ss (get_or cs j []) e.bounds) (numbered 0 xs) es p (subst (λ n. SomeEntry (λ e. (e.id ≡ n) × IsRound h ss (get_or cs j []) e.bounds) (numbered 0 xs)) (none j) (numbered_each 0 cs xs j r lt));
    own = recursion_from_All (Own cs) es (All-permutation (Own cs) (numbered 0 xs) es p (All-from_recursion (Own cs) (numbered 0 xs) (numbered_own cs 0 cs xs r (λ j lt. ap (λ n. get_or cs n []) (none j)) (none (length cs)))));
  }
    where
      none : (j : ℕ) → 0 + j ≡ j
      none j = omega arith

-- one box more
pub boxes_push : {A : Type 0} (h : A → Point → Bool) (m : A → Slot → Bool) (l : A → List Line) (ss : List Slot) (cs : List (List A)) (xs : List Box) (c : List A) (x : Box) → AreBoxesOf h m l ss cs xs → IsBoxOf h m l ss c x → AreBoxesOf h m l ss (cs ++ c ∷ []) (xs ++ x ∷ [])
boxes_push h m l ss [] [] c x r k = (k, tt)
boxes_push h m l ss [] (y ∷ xs) c x r k = absurd r
boxes_push h m l ss (d ∷ cs) [] c x r k = absurd r
boxes_push h m l ss (d ∷ cs) (y ∷ xs) c x r k = (r.0, boxes_push h m l ss cs xs c x r.1 k)

pub boxes_length : {A : Type 0} (h : A → Point → Bool) (m : A → Slot → Bool) (l : A → List Line) (ss : List Slot) (cs : List (List A)) (xs : List Box) → AreBoxesOf h m l ss cs xs → length cs ≡ length xs
boxes_length h m l ss [] [] r = refl
boxes_length h m l ss [] (x ∷ xs) r = absurd r
boxes_length h m l ss (c ∷ cs) [] r = absurd r
boxes_length h m l ss (c ∷ cs) (x ∷ xs) r = ap suc (boxes_length h m l ss cs xs r.1)
