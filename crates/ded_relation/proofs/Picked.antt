-- Tuples looked up by numbers are those in the window, where the numbers are all of those that may hold there.
use Rattle.std.proofs.Common.{◌≡◌, ℕ, ◌+◌, ◌<◌, ◌≤◌, ◌==◌, true, false, cond, List, [], ◌∷◌, ◌++◌, None, Some, ◌⊎◌, inl, inr, refl, sym, ap, ◌∙◌, subst, arith}
use Rattle.std.specs.BTreeMap.{is_at}
use Rattle.std.specs.List.{AllByRecursion, Contains}
use Rattle.std.specs.List.Sorted.{IsStrictlySortedBy, IsStrictlyIncreasing}
use Rattle.std.specs.Map.{keys_of, lookup}
use Rattle.std.specs.Ordering.{nat_cmp}
use Rattle.std.specs.declared.cmp.Ordering.TheVariants.{Less}
use Rattle.std.proofs.lemmas.Bool.Decides.{nat_tests}
use Rattle.std.proofs.lemmas.Map.Keys.{sorted_from_strictly_increasing}
use Rattle.ded_model.proofs.Lists.{Every}
use Rattle.ded_model.specs.Row.{Atom}
use Rattle.ded_hull.proofs.Found.{Has, has_from}
use Rattle.ded_ranges.specs.declared.window.Window.{Window}
use Rattle.ded_ranges.specs.Windows.{IsMissed}
use Rattle.ded_relation.specs.Nearby.{AreNear, with_number, picked}
use Rattle.ded_relation.proofs.Numbers.{key_test}

-- ---- numbers that ascend from m on

abbrev Ascend : ℕ → List ℕ → Type 0
Ascend m [] = Unit {0}
Ascend m (k ∷ ks) = (m ≤ k) × Ascend (k + 1) ks

all_above : (k : ℕ) (ks : List ℕ) → AllByRecursion (λ y. nat_cmp k y ≡ Less) ks → AllByRecursion (λ y. k + 1 ≤ y) ks
all_above k [] h = tt
all_above k (j ∷ ks) h = (above j h.0, all_above k ks h.1)
  where
    above : (j : ℕ) → nat_cmp k j ≡ Less → k + 1 ≤ j
    above j e = grind (arith, nat_tests)

ascend : (m : ℕ) (ks : List ℕ) → AllByRecursion (λ y. m ≤ y) ks → IsStrictlySortedBy nat_cmp ks → Ascend m ks
unfolding IsStrictlySortedBy
ascend m [] low s = tt
ascend m (k ∷ ks) low s = (low.0, ascend (k + 1) ks (all_above k ks s.0) s.1)

all_zero : (ks : List ℕ) → AllByRecursion (λ y. 0 ≤ y) ks
all_zero [] = tt
all_zero (k ∷ ks) = (omega arith, all_zero ks)

lower : (m n : ℕ) (ks : List ℕ) → n ≤ m → Ascend m ks → Ascend n ks
lower m n [] le h = tt
lower m n (k ∷ ks) le h = (omega (arith, le, h.0), h.1)

has_above : (m : ℕ) (ks : List ℕ) (i : ℕ) → Ascend m ks → Has ks i → m ≤ i
has_above m [] i a h = absurd h
has_above m (k ∷ ks) i a (inl e) = low m k i a.0 e
  where
    low : (m k i : ℕ) → m ≤ k → k ≡ i → m ≤ i
    low m k i h e = omega arith
has_above m (k ∷ ks) i a (inr h) = less m k i a.0 (has_above (k + 1) ks i a.1 h)
  where
    less : (m k i : ℕ) → m ≤ k → k + 1 ≤ i → m ≤ i
    less m k i h g = omega arith

-- ---- looking up

-- no number is found below all
none_below : (i m : ℕ) (ts : List (ℕ × List Atom)) → i < m → Ascend m (keys_of ts) → lookup (is_at (nat_cmp i)) ts ≡ None
none_below i m [] lt a = refl
none_below i m (t ∷ ts) lt a =
    ap (λ b. cond b (Some t.1) (lookup (is_at (nat_cmp i)) ts)) (key_test i t.0 ∙ apart t.0 a.0) ∙ none_below i (t.0 + 1) ts (more t.0 a.0) a.1
  where
    apart : (k : ℕ) → m ≤ k → (k == i) ≡ false
    apart k h = grind (arith, nat_tests)

    more : (k : ℕ) → m ≤ k → i < k + 1
    more k h = omega (arith, lt)

found_here : (i : ℕ) (t : ℕ × List Atom) (ts : List (ℕ × List Atom)) → t.0 ≡ i → lookup (is_at (nat_cmp i)) (t ∷ ts) ≡ Some t.1
found_here i t ts e = ap (λ b. cond b (Some t.1) (lookup (is_at (nat_cmp i)) ts)) (key_test i t.0 ∙ same t.0 e)
  where
    same : (k : ℕ) → k ≡ i → (k == i) ≡ true
    same k e = grind (arith, nat_tests)

found_later : (i : ℕ) (t : ℕ × List Atom) (ts : List (ℕ × List Atom)) → t.0 < i → lookup (is_at (nat_cmp i)) (t ∷ ts) ≡ lookup (is_at (nat_cmp i)) ts
found_later i t ts lt = ap (λ b. cond b (Some t.1) (lookup (is_at (nat_cmp i)) ts)) (key_test i t.0 ∙ apart t.0 lt)
  where
    apart : (k : ℕ) → k < i → (k == i) ≡ false
    apart k h = grind (arith, nat_tests)

-- a tuple below all numbers isn't picked
passed : (t : ℕ × List Atom) (ts : List (ℕ × List Atom)) (is : List ℕ) → Ascend (t.0 + 1) is → picked is (t ∷ ts) ≡ picked is ts
passed t ts [] a = refl
passed t ts (i ∷ is) a =
    ap (λ o. with_number i o ++ picked is (t ∷ ts)) (found_later i t ts (above t.0 i a.0)) ∙ ap (λ us. with_number i (lookup (is_at (nat_cmp i)) ts) ++ us) (passed t ts is (lower (i + 1) (t.0 + 1) is (less t.0 i a.0) a.1))
  where
    above : (k i : ℕ) → k + 1 ≤ i → k < i
    above k i h = omega arith

    less : (k i : ℕ) → k + 1 ≤ i → k + 1 ≤ i + 1
    less k i h = omega arith

-- of no tuples none is
pick_none : (is : List ℕ) → picked is [] ≡ []
pick_none [] = refl
pick_none (i ∷ is) = pick_none is

ranks : (a b : ℕ) → a < b ⊎ (a ≡ b) ⊎ b < a
ranks a b = grind arith

-- ---- all that are found

module _ (w : Window) (Found : ℕ → Type 0) where
  -- the numbers are all that are found from m on
  abbrev AllFrom : ℕ → List ℕ → Type 0
  AllFrom m is = (k : ℕ) → m ≤ k → Found k → Has is k

  -- a tuple whose number isn't found is missed
  abbrev pub Misses : List (ℕ × List Atom) → Type 0
  Misses ts = Every (λ t. (Found t.0 → ⊥) → IsMissed w t.1) ts

  -- what is found of the tuples behind t
  abbrev Picks : ℕ → List (ℕ × List Atom) → Type 0
  Picks m ts = (is : List ℕ) → Ascend m is → AllFrom m is → AreNear w (picked is ts) ts

  fewer : (m i : ℕ) (is : List ℕ) → m ≤ i → AllFrom m (i ∷ is) → AllFrom (i + 1) is
  fewer m i is le f k h g = by (f k (more m i k le h) g)
    where
      more : (m i k : ℕ) → m ≤ i → i + 1 ≤ k → m ≤ k
      more m i k le h = omega arith

      by : Has (i ∷ is) k → Has is k
      by (inl e) = absurd (wrong i k h e)
        where
          wrong : (i k : ℕ) → i + 1 ≤ k → i ≡ k → ⊥
          wrong i k h e = omega arith
      by (inr h) = h

  later : (m n : ℕ) (is : List ℕ) → m ≤ n → AllFrom m is → AllFrom n is
  later m n is le f k h g = f k (more m n k le h) g
    where
      more : (m n k : ℕ) → m ≤ n → n ≤ k → m ≤ k
      more m n k le h = omega arith

  none_found : (m : ℕ) (t : ℕ × List Atom) (is : List ℕ) → m ≤ t.0 → Ascend (t.0 + 1) is → AllFrom m is → Found t.0 → ⊥
  none_found m t is le a f g = wrong t.0 (has_above (t.0 + 1) is t.0 a (f t.0 le g))
    where
      wrong : (k : ℕ) → k + 1 ≤ k → ⊥
      wrong k h = omega arith

  -- of a tuple and those behind it, with the numbers above its own number, those above i, or all
  module _ (t : ℕ × List Atom) (ts : List (ℕ × List Atom)) (miss : (Found t.0 → ⊥) → IsMissed w t.1) (up : Ascend (t.0 + 1) (keys_of ts)) (next : Picks (t.0 + 1) ts) where
    more : (m k : ℕ) → m ≤ k → m ≤ k + 1
    more m k h = omega arith

    raise : (k i : ℕ) → k < i → k + 1 ≤ i
    raise k i h = omega arith

    same : (k : ℕ) → k ≤ k
    same k = omega arith

    passes : (m : ℕ) → m ≤ t.0 → (is : List ℕ) → Ascend (t.0 + 1) is → AllFrom m is → AreNear w (picked is (t ∷ ts)) (t ∷ ts)
    passes m le is a f =
        subst (λ us. AreNear w us (t ∷ ts)) (sym (passed t ts is a)) (inl (miss (none_found m t is le a f), next is a (later m (t.0 + 1) is (more m t.0 le) f)))

    takes : (m : ℕ) (i : ℕ) (is : List ℕ) → m ≤ i → i ≡ t.0 → Ascend (i + 1) is → AllFrom m (i ∷ is) → AreNear w (picked (i ∷ is) (t ∷ ts)) (t ∷ ts)
    takes m i is le e a f =
        let behind : Ascend (t.0 + 1) is = subst (λ k. Ascend (k + 1) is) e a in
        let taken : picked (i ∷ is) (t ∷ ts) ≡ (t.0, t.1) ∷ picked is ts =
        ap (λ o. with_number i o ++ picked is (t ∷ ts)) (found_here i t ts (sym e)) ∙ ap (λ us. (i, t.1) ∷ us) (passed t ts is behind) ∙ ap (λ k. (k, t.1) ∷ picked is ts) e in
        subst (λ us. AreNear w us (t ∷ ts)) (sym taken) (inr (picked is ts, refl, next is behind (subst (λ k. AllFrom (k + 1) is) e (fewer m i is le f))))

    skips : (i : ℕ) (is : List ℕ) → i < t.0 → AreNear w (picked is (t ∷ ts)) (t ∷ ts) → AreNear w (picked (i ∷ is) (t ∷ ts)) (t ∷ ts)
    skips i is lt n = subst (λ o. AreNear w (with_number i o ++ picked is (t ∷ ts)) (t ∷ ts)) (sym (none_below i t.0 (t ∷ ts) lt (same t.0, up))) n

    step : (is : List ℕ) (m : ℕ) → m ≤ t.0 → Ascend m is → AllFrom m is → AreNear w (picked is (t ∷ ts)) (t ∷ ts)
    step [] m le a f = passes m le [] tt f
    step (i ∷ is) m le a f = by (ranks i t.0) (step is (i + 1))
      where
        by : i < t.0 ⊎ (i ≡ t.0) ⊎ t.0 < i → (i + 1 ≤ t.0 → Ascend (i + 1) is → AllFrom (i + 1) is → AreNear w (picked is (t ∷ ts)) (t ∷ ts)) → AreNear w (picked (i ∷ is) (t ∷ ts)) (t ∷ ts)
        by (inl lt) rest = skips i is lt (rest (raise i t.0 lt) a.1 (fewer m i is a.0 f))
        by (inr (inl e)) rest = takes m i is a.0 e a.1 f
        by (inr (inr gt)) rest = passes m le (i ∷ is) (raise t.0 i gt, a.1) f

  picks : (m : ℕ) (ts : List (ℕ × List Atom)) → Misses ts → Ascend m (keys_of ts) → Picks m ts
  picks m [] miss up is a f = pick_none is
  picks m (t ∷ ts) miss up is a f = step t ts miss.0 up.1 (picks (t.0 + 1) ts miss.1 up.1) is m up.0 a f

-- the numbers ascend, and a tuple whose number isn't among them is missed
pub picked_near : (w : Window) (is : List ℕ) (ts : List (ℕ × List Atom)) → IsStrictlyIncreasing is → IsStrictlySortedBy nat_cmp (keys_of ts) → Misses w (Contains is) ts → AreNear w (picked is ts) ts
picked_near w is ts up sorted miss =
    picks w (Contains is) 0 ts miss (ascend 0 (keys_of ts) (all_zero (keys_of ts)) sorted) is (ascend 0 is (all_zero is) (sorted_from_strictly_increasing is up)) (λ k le c. has_from is k c.0 c.1 c.2)
