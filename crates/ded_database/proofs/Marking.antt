-- The marks of views, with one more at a place and without those of a name.
use Rattle.std.proofs.Common.{◌≡◌, ℕ, zero, suc, Bool, true, false, not, ◌||◌, ◌&&◌, cond, List, [], ◌∷◌, refl, sym, ◌∙◌, subst, true≢false, bytes_eq}
use Rattle.std.specs.List.{insert, AllByRecursion}
use Rattle.std.proofs.lemmas.Bool.{or_from, or_parts}
use Rattle.ded_algebra.proofs.Names.{other_way}
use Rattle.ded_database.specs.declared.mark.Mark.{Mark}
use Rattle.ded_database.specs.Held.{is_marked, AreMarkedApart}
use Rattle.ded_database.specs.Keeping.{without_mark}
use Rattle.ded_query.proofs.GivenNames.{same_name}

-- ---- one more, wherever it stands

pub marked_with : (ms : List Mark) (i : ℕ) (m : Mark) (v : List ℕ) → is_marked (insert ms i m) v ≡ (bytes_eq v m.name || is_marked ms v)
marked_with ms zero m v = refl
marked_with [] (suc i) m v = refl
marked_with (x ∷ ms) (suc i) m v = by (bytes_eq v x.name) (bytes_eq v m.name) (is_marked ms v) (is_marked (insert ms i m) v) (marked_with ms i m v)
  where
    by : (a b c d : Bool) → d ≡ (b || c) → (a || d) ≡ (b || (a || c))
    by true true c d e = refl
    by true false c d e = refl
    by false b c d e = e

pub all_with : (P : Mark → Type 0) (ms : List Mark) (i : ℕ) (m : Mark) → P m → AllByRecursion P ms → AllByRecursion P (insert ms i m)
all_with P ms zero m p k = (p, k)
all_with P [] (suc i) m p k = (p, tt)
all_with P (x ∷ ms) (suc i) m p k = (k.0, all_with P ms i m p k.1)

pub apart_with : (ms : List Mark) (i : ℕ) (m : Mark) → is_marked ms m.name ≡ false → AreMarkedApart ms → AreMarkedApart (insert ms i m)
apart_with ms zero m h k = (h, k)
apart_with [] (suc i) m h k = (refl, tt)
apart_with (x ∷ ms) (suc i) m h k = (
  marked_with ms i m x.name ∙ or_from (bytes_eq x.name m.name) (is_marked ms x.name) (other_way m.name x.name (or_parts _ _ h).0) k.0,
  apart_with ms i m (or_parts (bytes_eq m.name x.name) _ h).1 k.1,
)

-- ---- those of other names

pub all_without : (P : Mark → Type 0) (n : List ℕ) (ms : List Mark) → AllByRecursion P ms → AllByRecursion P (without_mark n ms)
all_without P n [] k = tt
all_without P n (m ∷ ms) k = by (not (bytes_eq m.name n)) (all_without P n ms k.1)
  where
    by : (b : Bool) → AllByRecursion P (without_mark n ms) → AllByRecursion P (cond b (m ∷ without_mark n ms) (without_mark n ms))
    by true next = (k.0, next)
    by false next = next

-- none of them has the name
pub others_without : (n : List ℕ) (ms : List Mark) → AllByRecursion (λ (m : Mark). not (bytes_eq m.name n) ≡ true) (without_mark n ms)
others_without n [] = tt
others_without n (m ∷ ms) = by (not (bytes_eq m.name n)) refl (others_without n ms)
  where
    by : (b : Bool) → not (bytes_eq m.name n) ≡ b → AllByRecursion (λ (x : Mark). not (bytes_eq x.name n) ≡ true) (without_mark n ms)
        → AllByRecursion (λ (x : Mark). not (bytes_eq x.name n) ≡ true) (cond b (m ∷ without_mark n ms) (without_mark n ms))
    by true e next = (e, next)
    by false e next = next

-- a name is marked still where it is another one
pub marked_without : (n v : List ℕ) (ms : List Mark) → is_marked (without_mark n ms) v ≡ (not (bytes_eq v n) && is_marked ms v)
marked_without n v [] = by (not (bytes_eq v n))
  where
    by : (b : Bool) → false ≡ (b && false)
    by true = refl
    by false = refl
marked_without n v (m ∷ ms) = by (bytes_eq m.name n) refl (marked_without n v ms)
  where
    gone : (a b : Bool) → (b ≡ true → a ≡ true) → (c d : Bool) → d ≡ (not a && c) → d ≡ (not a && (b || c))
    gone true b h c d e = e
    gone false true h c d e = absurd (true≢false (sym (h refl)))
    gone false false h c d e = e

    kept : (a b : Bool) → (b ≡ true → a ≡ false) → (c d : Bool) → d ≡ (not a && c) → (b || d) ≡ (not a && (b || c))
    kept true true h c d e = absurd (true≢false (h refl))
    kept false true h c d e = refl
    kept a false h c d e = e

    by : (b : Bool) → bytes_eq m.name n ≡ b → is_marked (without_mark n ms) v ≡ (not (bytes_eq v n) && is_marked ms v)
        → is_marked (cond (not b) (m ∷ without_mark n ms) (without_mark n ms)) v ≡ (not (bytes_eq v n) && (bytes_eq v m.name || is_marked ms v))
    by true e next = gone (bytes_eq v n) (bytes_eq v m.name) (λ f. subst (λ k. bytes_eq k n ≡ true) (same_name v m.name f) e) (is_marked ms v) (is_marked (without_mark n ms) v) next
    by false e next = kept (bytes_eq v n) (bytes_eq v m.name) (λ f. subst (λ k. bytes_eq k n ≡ false) (same_name v m.name f) e) (is_marked ms v) (is_marked (without_mark n ms) v) next

pub apart_without : (n : List ℕ) (ms : List Mark) → AreMarkedApart ms → AreMarkedApart (without_mark n ms)
apart_without n [] k = tt
apart_without n (m ∷ ms) k = by (not (bytes_eq m.name n)) (apart_without n ms k.1)
  where
    none : (a b : Bool) → b ≡ false → (a && b) ≡ false
    none true b e = e
    none false b e = refl

    by : (b : Bool) → AreMarkedApart (without_mark n ms) → AreMarkedApart (cond b (m ∷ without_mark n ms) (without_mark n ms))
    by true next = (marked_without n m.name ms ∙ none (not (bytes_eq m.name n)) (is_marked ms m.name) k.0, next)
    by false next = next
