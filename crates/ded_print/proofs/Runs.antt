-- Numbers and slots that are written before other bytes are told apart.
use Rattle.std.proofs.Common.{◌≡◌, ℕ, suc, ◌+◌, ◌%◌, ◌<◌, List, [], ◌∷◌, ◌++◌, refl, sym, ap, ap₂, subst, arith, append_assoc}
use Rattle.std.specs.Prelude.{ℤ, pos, negsuc}
use Rattle.std.specs.List.{AllByRecursion}
use Rattle.ded_model.specs.declared.slot.Slot.{Slot}
use Rattle.ded_print.specs.Numbers.{number_text, integer_text}
use Rattle.ded_print.specs.Tuples.{slot_names}
use Rattle.ded_print.proofs.Numerals.{by_digits, same_number}

pub tails : {a b : ℕ} {p q : List ℕ} → a ∷ p ≡ b ∷ q → (a ≡ b) × (p ≡ q)
tails e = (cc, cc)

pub no_byte : {b : ℕ} {p : List ℕ} → [] ≡ b ∷ p → ⊥
no_byte e = cc

abbrev pub first : List ℕ → ℕ
first [] = 0
first (b ∷ bs) = b

-- what follows a front that both have
pub behind : (p xs ys : List ℕ) → p ++ xs ≡ p ++ ys → xs ≡ ys
behind [] xs ys e = e
behind (a ∷ p) xs ys e = behind p xs ys (tails e).1

-- ---- runs of bytes

-- the bytes are none, or the first isn't one of the run
abbrev pub Ends : (ℕ → Type 0) → List ℕ → Type 0
Ends P [] = Unit {0}
Ends P (b ∷ bs) = P b → ⊥

pub same_run : (P : ℕ → Type 0) (p q xs ys : List ℕ) → AllByRecursion P p → AllByRecursion P q → Ends P xs → Ends P ys → p ++ xs ≡ q ++ ys → (p ≡ q) × (xs ≡ ys)
same_run P [] [] xs ys hp hq hx hy e = (refl, e)
same_run P [] (b ∷ q) [] ys hp hq hx hy e = absurd (no_byte e)
same_run P [] (b ∷ q) (x ∷ xs) ys hp hq hx hy e = absurd (hx (subst P (sym (tails e).0) hq.0))
same_run P (a ∷ p) [] xs [] hp hq hx hy e = absurd (no_byte (sym e))
same_run P (a ∷ p) [] xs (y ∷ ys) hp hq hx hy e = absurd (hy (subst P (tails e).0 hp.0))
same_run P (a ∷ p) (b ∷ q) xs ys hp hq hx hy e =
    let t = tails e in
    let m = same_run P p q xs ys hp.1 hq.1 hx hy t.1 in
    (ap₂ (λ (x : ℕ) (l : List ℕ). x ∷ l) t.0 m.0, m.1)

-- ---- numbers

abbrev pub Digit : ℕ → Type 0
Digit b = (47 < b) × (b < 58)

run-push : (ds : List ℕ) (c : ℕ) → AllByRecursion Digit ds → Digit c → AllByRecursion Digit (ds ++ c ∷ [])
run-push [] c h d = (d, tt)
run-push (b ∷ ds) c h d = (h.0, run-push ds c h.1 d)

pub number_run : (n : ℕ) → AllByRecursion Digit (number_text n)
number_run = by_digits (λ m ds. AllByRecursion Digit ds) (λ m l. ((omega arith, omega (arith, l)), tt)) (λ m ds l h. run-push ds (48 + m % 10) h (omega arith, omega arith))

pub number_first : (n : ℕ) (xs : List ℕ) → Digit (first (number_text n ++ xs))
number_first = by_digits (λ m ds. (xs : List ℕ) → Digit (first (ds ++ xs)))
    (λ m l xs. (omega arith, omega (arith, l)))
    (λ m ds l h xs. subst (λ z. Digit (first z)) (sym (append_assoc ds ((48 + m % 10) ∷ []) xs)) (h ((48 + m % 10) ∷ xs)))

pub same_numbers : (m n : ℕ) (xs ys : List ℕ) → Ends Digit xs → Ends Digit ys → number_text m ++ xs ≡ number_text n ++ ys → (m ≡ n) × (xs ≡ ys)
same_numbers m n xs ys hx hy e =
    let r = same_run Digit (number_text m) (number_text n) xs ys (number_run m) (number_run n) hx hy e in
    (same_number m n r.0, r.1)

-- the first byte of a number is a digit or `-`
pub integer_first : (z : ℤ) (xs : List ℕ) → (44 < first (integer_text z ++ xs)) × (first (integer_text z ++ xs) < 58)
integer_first (pos n) xs = let d = number_first n xs in (omega (arith, d.0), d.1)
integer_first (negsuc n) xs = (omega arith, omega arith)

pub same_integers : (z w : ℤ) (xs ys : List ℕ) → Ends Digit xs → Ends Digit ys → integer_text z ++ xs ≡ integer_text w ++ ys → (z ≡ w) × (xs ≡ ys)
same_integers (pos m) (pos n) xs ys hx hy e = let r = same_numbers m n xs ys hx hy e in (ap pos r.0, r.1)
same_integers (pos m) (negsuc n) xs ys hx hy e = let d = number_first m xs in absurd (omega (arith, d.0, ap first e))
same_integers (negsuc m) (pos n) xs ys hx hy e = let d = number_first n ys in absurd (omega (arith, d.0, ap first e))
same_integers (negsuc m) (negsuc n) xs ys hx hy e =
    let r = same_numbers (suc m) (suc n) xs ys hx hy (tails e).1 in
    let k : m ≡ n = omega (arith, r.0) in
    (ap negsuc k, r.1)

-- ---- slots

pub same_slots : (s t : Slot) (xs ys : List ℕ) → Ends Digit xs → Ends Digit ys → slot_names s ++ xs ≡ slot_names t ++ ys → (s.number ≡ t.number) × (xs ≡ ys)
same_slots s t xs ys hx hy e = same_numbers s.number t.number xs ys hx hy (tails e).1

-- bytes that begin with another one than a digit
pub ends_at : (b : ℕ) (xs : List ℕ) → first xs ≡ b → (Digit b → ⊥) → Ends Digit xs
ends_at b [] e h = tt
ends_at b (x ∷ xs) e h = λ d. h (subst Digit e d)
