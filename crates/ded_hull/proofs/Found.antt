-- The numbers of the entries in whose reaches limits may hold, and hulls of lists of entries.
use Rattle.std.proofs.Common.{◌≡◌, ℕ, zero, suc, ◌+◌, ◌<◌, Bool, true, false, cond, List, [], ◌∷◌, ◌++◌, take, length, get_or, ◌⊎◌, inl, inr, arith, refl, sym, ap, ◌∙◌, subst, append_assoc, true≢false}
use Rattle.std.specs.Prelude.{ℤ}
use lib.Dec.{eqb}
use Rattle.std.proofs.lemmas.Map.Keys.{IsStrictlyIncreasing-dedup}
use Rattle.std.proofs.lemmas.List.Kept.{Contains-dedup_nat, Contains-from_dedup}
use Rattle.std.proofs.lemmas.List.Sorted.{Contains-permutation, IsPermutation-sym, All-permutation}
use Rattle.std.specs.List.{Contains, dedup}
use Rattle.std.specs.List.Sorted.{IsPermutation, IsSorted, IsStrictlyIncreasing}
use Rattle.std.specs.Ordering.{nat_cmp}
use Rattle.ded_model.proofs.Lists.{Every, Some, every-append, some-right, every_all, all_every}
use Rattle.ded_ranges.specs.declared.reach.Range.{Range}
use Rattle.ded_ranges.specs.declared.limit.Limit.{Limit}
use Rattle.ded_hull.specs.declared.entry.ReachEntry.{ReachEntry}
use Rattle.ded_ranges.specs.Reaches.{Lies, IsWithin}
use Rattle.ded_ranges.specs.Limits.{are_met, may_hold}
use Rattle.ded_hull.specs.Entries.{ids_in, IsPassing, AreFound, IsComplete, Covers}
use Rattle.ded_ranges.proofs.Sums.{may_hold_sound, may_hold_wider}
use Rattle.ded_ranges.proofs.Taken.{taken_more}
use Rattle.ded_ranges.proofs.Widened.{within_trans}

-- ---- one entry more

pub ids_in-append : (ls : List Limit) (xs ys : List ReachEntry) → ids_in ls (xs ++ ys) ≡ ids_in ls xs ++ ids_in ls ys
ids_in-append ls [] ys = refl
ids_in-append ls (x ∷ xs) ys = choose (may_hold x.reach ls) x.id (ids_in ls xs) (ids_in ls ys) (ids_in ls (xs ++ ys)) (ids_in-append ls xs ys)
  where
    choose : (b : Bool) (i : ℕ) (is js ks : List ℕ) → ks ≡ is ++ js → cond b (i ∷ ks) ks ≡ cond b (i ∷ is) is ++ js
    choose true i is js ks e = ap (λ zs. i ∷ zs) e
    choose false i is js ks e = e

pub found_more : (ls : List Limit) (es : List ReachEntry) (i : ℕ) (e : ReachEntry) (old found new : List ℕ) → i < length es → get_or es i e ≡ e → found ≡ old ++ ids_in ls (take i es) → new ≡ found ++ ids_in ls (e ∷ []) → new ≡ old ++ ids_in ls (take (i + 1) es)
found_more ls es i e old found new h is f n =
    let more : take (i + 1) es ≡ take i es ++ e ∷ [] = taken_more es i e h ∙ ap (λ x. take i es ++ x ∷ []) is in
    n ∙ ap (λ xs. xs ++ ids_in ls (e ∷ [])) f ∙ append_assoc old (ids_in ls (take i es)) (ids_in ls (e ∷ [])) ∙ ap (λ xs. old ++ xs) (sym (ap (ids_in ls) more ∙ ids_in-append ls (take i es) (e ∷ [])))

-- ---- hulls

pub covers_wider : (h k : List Range) (es : List ReachEntry) → IsWithin h k → Covers h es → Covers k es
covers_wider h k [] w c = tt
covers_wider h k (e ∷ es) w c = (within_trans e.reach h k c.0 w, covers_wider h k es w c.1)

pub covers_more : (old new : List Range) (es : List ReachEntry) (i : ℕ) (e : ReachEntry) → i < length es → get_or es i e ≡ e → IsWithin old new → IsWithin e.reach new → Covers old (take i es) → Covers new (take (i + 1) es)
covers_more old new es i e h is w v c =
    subst (Covers new) (sym (taken_more es i e h ∙ ap (λ x. take i es ++ x ∷ []) is)) (every-append (λ e. IsWithin e.reach new) (take i es) (e ∷ []) (covers_wider old new (take i es) w c) (v, tt))

pub covers_moved : (h : List Range) (xs ys : List ReachEntry) → IsPermutation xs ys → Covers h xs → Covers h ys
covers_moved h xs ys p c = all_every (λ e. IsWithin e.reach h) ys (All-permutation (λ e. IsWithin e.reach h) xs ys p (every_all (λ e. IsWithin e.reach h) xs c))

-- where limits cannot hold in a hull, they hold in no reach of its entries
pub nothing_found : (ls : List Limit) (h : List Range) (es : List ReachEntry) → may_hold h ls ≡ false → Covers h es → ids_in ls es ≡ []
nothing_found ls h [] f c = refl
nothing_found ls h (e ∷ es) f c = by (may_hold e.reach ls) refl (nothing_found ls h es f c.1)
  where
    by : (b : Bool) → may_hold e.reach ls ≡ b → ids_in ls es ≡ [] → cond b (e.id ∷ ids_in ls es) (ids_in ls es) ≡ []
    by true k r = absurd (true≢false (sym (may_hold_wider e.reach h ls c.0 k) ∙ f))
    by false k r = r

-- ---- the answer

-- the number is in the list
abbrev pub Has : List ℕ → ℕ → Type 0
Has [] i = ⊥
Has (x ∷ xs) i = (x ≡ i) ⊎ Has xs i

pub has_from : (xs : List ℕ) (i k : ℕ) → k < length xs → get_or xs k i ≡ i → Has xs i
has_from [] i k h e = absurd (omega (arith, h))
has_from (x ∷ xs) i zero h e = inl e
has_from (x ∷ xs) i (suc k) h e = inr (has_from xs i k (omega (arith, h)) e)

has_to : (xs : List ℕ) (i : ℕ) → Has xs i → Contains xs i
has_to [] i h = absurd h
has_to (x ∷ xs) i (inl e) = (zero, omega arith, e)
has_to (x ∷ xs) i (inr h) = let c = has_to xs i h in (suc c.0, omega (arith, c.1), c.2)

has_later : (b : Bool) (x : ℕ) (xs : List ℕ) (i : ℕ) → Has xs i → Has (cond b (x ∷ xs) xs) i
has_later true x xs i h = inr h
has_later false x xs i h = h

has_split : (b : Bool) (x : ℕ) (xs : List ℕ) (i : ℕ) → Has (cond b (x ∷ xs) xs) i → ((x ≡ i) × (b ≡ true)) ⊎ Has xs i
has_split true x xs i (inl e) = inl (e, refl)
has_split true x xs i (inr h) = inr h
has_split false x xs i h = inr h

some_from : (ls : List Limit) (es : List ReachEntry) (i : ℕ) → Has (ids_in ls es) i → Some (IsPassing ls i) es
some_from ls [] i h = absurd h
some_from ls (e ∷ es) i h = elim (has_split (may_hold e.reach ls) e.id (ids_in ls es) i h) [ inl k ↦ inl k | inr k ↦ inr (some_from ls es i k) ]

some_to : (ls : List Limit) (es : List ReachEntry) (i : ℕ) → Some (IsPassing ls i) es → Has (ids_in ls es) i
some_to ls [] i h = absurd h
some_to ls (e ∷ es) i (inl k) = subst (λ b. Has (cond b (e.id ∷ ids_in ls es) (ids_in ls es)) i) (sym k.1) (inl k.0)
some_to ls (e ∷ es) i (inr k) = has_later (may_hold e.reach ls) e.id (ids_in ls es) i (some_to ls es i k)

-- the numbers in order, each once
pub answer : (ls : List Limit) (es : List ReachEntry) (found sorted ids : List ℕ) → found ≡ ids_in ls es → IsPermutation found sorted → IsSorted nat_cmp sorted → ids ≡ dedup eqb sorted → AreFound ls es ids
answer ls es found sorted ids e p s is = record {
  ascending = subst IsStrictlyIncreasing (sym is) (IsStrictlyIncreasing-dedup sorted s);
  exact = λ i. (
    λ c. from i (subst (λ xs. Contains xs i) e (Contains-permutation sorted found i (IsPermutation-sym found sorted p) (Contains-from_dedup eqb sorted i (subst (λ xs. Contains xs i) is c)))),
    λ h. subst (λ xs. Contains xs i) (sym is) (Contains-dedup_nat sorted i (Contains-permutation found sorted i p (subst (λ xs. Contains xs i) (sym e) (has_to (ids_in ls es) i (some_to ls es i h))))),
  );
}
  where
    from : (i : ℕ) → Contains (ids_in ls es) i → Some (IsPassing ls i) es
    from i c = some_from ls es i (has_from (ids_in ls es) i c.0 c.1 c.2)

-- ---- nothing is lost

module _ (ls : List Limit) (all : List ReachEntry) (ids : List ℕ) (found : AreFound ls all ids) (v : ℕ → ℤ) (den : ℕ) (some : 0 < den) (met : are_met v den ls ≡ true) where
  one_found : (front : List ReachEntry) (e : ReachEntry) (es : List ReachEntry) → front ++ e ∷ es ≡ all → Lies e.reach v den → Contains ids e.id
  one_found front e es h l = (found.exact e.id).1 (subst (Some (IsPassing ls e.id)) h (some-right (IsPassing ls e.id) front (e ∷ es) (inl (refl, may_hold_sound e.reach v den ls some l met))))

  rest_found : (front es : List ReachEntry) → front ++ es ≡ all → Every (λ e. Lies e.reach v den → Contains ids e.id) es
  rest_found front [] h = tt
  rest_found front (e ∷ es) h = (one_found front e es h, rest_found (front ++ e ∷ []) es (append_assoc front (e ∷ []) es ∙ h))

  pub all_found : Every (λ e. Lies e.reach v den → Contains ids e.id) all
  all_found = rest_found [] all refl

pub is_complete : (ls : List Limit) (all : List ReachEntry) (ids : List ℕ) → AreFound ls all ids → IsComplete ls all ids
is_complete ls all ids found v den some met = all_found ls all ids found v den some met
