-- Laws of tests, options and lists that std does not have.
use Rattle.std.proofs.Common.{◌≡◌, Bool, true, false, refl, ℕ, List, bytes_eq, sym, ◌||◌, ◌+◌, [], ◌∷◌, ◌++◌, suc, ◌-◌, ◌<◌, arith, zero, length, get_or, subst, not, ap, true≢false, ◌⊎◌, inl, inr, take, drop, ◌∙◌}
use Rattle.std.specs.Prelude.{◌&&◌, Result, Ok, Err, IfOk, IfErr, Option, None, Some, ◌==◌}
use Rattle.std.proofs.lemmas.Slice.Eq.{bytes_eq-Decides}
use Rattle.std.specs.List.{AllByRecursion}
use Rattle.std.specs.Io.KnownBytes.{Appends}
use Rattle.std.proofs.lemmas.List.{append-nil, length-drop, take_all}
use Rattle.std.proofs.lemmas.Bool.Decides.{same_from_decides, nat_tests}

pub and_false : (a b : Bool) → b ≡ false → (a && b) ≡ false
and_false true b e = e
and_false false b e = refl

pub both : (a b : Bool) → a ≡ true → b ≡ true → (a && b) ≡ true
both a b h k = rw (h, k) refl

pub from_same_texts : (n m : List ℕ) → bytes_eq n m ≡ true → n ≡ m
from_same_texts n m e = (bytes_eq-Decides n m).0 e

pub same_tests : (a b : Bool) → (a ≡ true → b ≡ true) → (b ≡ true → a ≡ true) → a ≡ b
same_tests true b h k = sym (h refl)
same_tests false true h k = k refl
same_tests false false h k = refl

pub or_swap : (a d c : Bool) → ((a || d) || c) ≡ ((a || c) || d)
or_swap true d c = refl
or_swap false true true = refl
or_swap false true false = refl
or_swap false false true = refl
or_swap false false false = refl

pub all_more : {A : Type 0} (P : A → Type 0) (xs : List A) (y : A) → AllByRecursion P xs → P y → AllByRecursion P (xs ++ y ∷ [])
all_more P [] y h k = (k, tt)
all_more P (x ∷ xs) y h k = (h.0, all_more P xs y h.1 k)

pub or_false_both : (a b : Bool) → a ≡ false → b ≡ false → (a || b) ≡ false
or_false_both a b p q = λ i. p i || q i

-- `and` fails where its first part does
pub and_false_left : (a b : Bool) → a ≡ false → (a && b) ≡ false
and_false_left a b e = rw e

pub and_swap_first : (a b c : Bool) → (a && (b && c)) ≡ (b && (a && c))
and_swap_first true b c = refl
and_swap_first false true c = refl
and_swap_first false false c = refl

-- one more member
pub minus_step : (l i : ℕ) → i < l → l - i ≡ suc (l - (i + 1))
minus_step l i h = omega (arith, h)

pub bytes_eq-of : (x y : List ℕ) → x ≡ y → bytes_eq x y ≡ true
bytes_eq-of x y e = (bytes_eq-Decides x y).1 e

-- an atom at a place
pub all-at : {A : Type 0} (P : A → Type 0) (xs : List A) (i : ℕ) (x : A) → i < length xs → x ≡ get_or xs i x → AllByRecursion P xs → P x
all-at P [] i x h e a = absurd (omega (arith, h))
all-at P (y ∷ xs) zero x h e a = subst P (sym e) a.0
all-at P (y ∷ xs) (suc i) x h e a = all-at P xs i x (omega (arith, h)) e a.1

-- what doesn't go with the negation goes with it
pub implied : (x a : Bool) → (x && not a) ≡ false → x ≡ (x && a)
implied true true e = refl
implied true false e = e
implied false a e = refl

pub append_none : {A : Type 0} (xs : List A) → xs ++ [] ≡ xs
append_none [] = refl
append_none (x ∷ xs) = ap (λ ys. x ∷ ys) (append_none xs)

pub not_true_false : (b : Bool) → not b ≡ true → b ≡ false
not_true_false true e = absurd (true≢false (sym e))
not_true_false false e = refl

pub either_swapped : {A B : Type 0} → A ⊎ B → B ⊎ A
either_swapped (inl a) = inr a
either_swapped (inr b) = inl b

pub and_assoc : (a b c : Bool) → ((a && b) && c) ≡ (a && (b && c))
and_assoc true b c = refl
and_assoc false b c = refl

pub and_over_or : (x a b c : Bool) → (a || b) ≡ c → (x && c) ≡ ((x && a) || (x && b))
and_over_or true a b c e = sym e
and_over_or false a b c e = refl

pub not_twice : (b : Bool) → not (not b) ≡ b
not_twice true = refl
not_twice false = refl

pub if_ok_by : {X E : Type 0} (r : Result X E) (P Q : X → Type 0) → ((x : X) → P x → Q x) → IfOk r P → IfOk r Q
if_ok_by (Ok x) P Q f h = f x h
if_ok_by (Err e) P Q f h = h

pub if_err_by : {X E : Type 0} (r : Result X E) (P Q : E → Type 0) → ((e : E) → P e → Q e) → IfErr r P → IfErr r Q
if_err_by (Ok x) P Q f h = h
if_err_by (Err e) P Q f h = f e h

pub or_false_none : (a : Bool) → a ≡ (a || false)
or_false_none true = refl
or_false_none false = refl

pub not_false_true : (b : Bool) → not b ≡ false → b ≡ true
not_false_true true e = refl
not_false_true false e = absurd (true≢false e)

pub adds_none : (a : Option (List ℕ)) → Appends a a []
adds_none None = tt
adds_none (Some xs) = sym (append-nil xs)

-- texts are compared in either order
pub bytes_eq-swap : (x y : List ℕ) → bytes_eq x y ≡ bytes_eq y x
bytes_eq-swap x y = same_from_decides _ _ (bytes_eq-Decides x y) (λ e. sym ((bytes_eq-Decides y x).0 e), λ e. (bytes_eq-Decides y x).1 (sym e))

pub or_neither_last : (a b : Bool) → a ≡ false → b ≡ false → (a || (b || false)) ≡ false
or_neither_last a b h k = rw (h, k) refl

-- the slice behind a place
pub range_from : (bytes : List ℕ) (at : ℕ) → take (length bytes - at) (drop at bytes) ≡ drop at bytes
range_from bytes at = take_all (length bytes - at) (drop at bytes) (omega (arith, length-drop at bytes))

pub is_zero : (n : ℕ) → (n == 0) ≡ true → n ≡ 0
is_zero n e = grind (arith, nat_tests)

pub not_zero : (n : ℕ) → (suc n == 0) ≡ false
not_zero n = grind (arith, nat_tests)

pub and_not_both : (x y : Bool) → (x && y) ≡ false → x ≡ true → y ≡ false
and_not_both x y e f = sym (ap (λ z. z && y) f) ∙ e
