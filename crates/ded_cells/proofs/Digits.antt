-- The digits behind the point are those of long division: what they leave is less than the denominator, and nothing where that
-- divides a power of ten with as many digits.
use Rattle.std.proofs.Common.{◌≡◌, ◌<◌, ◌+◌, ◌-◌, ◌*◌, ◌/◌, ◌%◌, ◌^◌, ◌⊎◌, inl, inr, ℕ, zero, suc, Bool, true, false, List, [], ◌∷◌, ◌++◌, length, arith, refl, sym, ap, ◌∙◌, subst, ⊎_elim, append-nil}
use Rattle.std.specs.Prelude.{◌==◌, ◌&&◌, nat_le, if◌then◌else◌, Result, OnOk}
use Rattle.std.specs.List.{AllByRecursion}
use Rattle.std.proofs.lemmas.Bool.Decides.{eqb_tells}
use Rattle.std.proofs.Math.Nat.{mul-mod_left, mul-add-mod_self_right, mod-eq_of_lt, mod-lt, div-add-mod, div-lt_iff_lt-mul, pow-succ'}
use Rattle.ded_num.proofs.Tests.{is_zero}
use Rattle.ded_model.proofs.Points.{and_right}
use Rattle.ded_dump.proofs.Puts.{last_two}
use Rattle.ded_cells.specs.Decimals.{digits_behind, digits_number, has_decimal, IsDigit}

-- ---- one digit more

pub no_digits : (k d : ℕ) → digits_behind k 0 d ≡ []
unfolding digits_behind
no_digits zero d = refl
no_digits (suc k) d = refl

pub one_digit : (k r d : ℕ) → (r == 0) ≡ false → digits_behind (suc k) r d ≡ (48 + (10 * r) / d) ∷ digits_behind k ((10 * r) % d) d
unfolding digits_behind
one_digit k r d some = ap (λ (b : Bool). if b then [] else ((48 + (10 * r) / d) ∷ digits_behind k ((10 * r) % d) d)) some

pub out_of_digits : (r d : ℕ) → digits_behind zero r d ≡ []
unfolding digits_behind
out_of_digits r d = refl

-- the next digit is below 10, and what it leaves is below the denominator
pub next_digit : (r d : ℕ) → r < d → (10 * r) / d < 10
next_digit r d less = (div-lt_iff_lt-mul {k = d} {x = 10 * r} {y = 10} (omega (arith, less))).1 (omega (arith, less))

pub next_rest : (n d : ℕ) → 0 < d → n % d < d
next_rest n d some = mod-lt n {m = d} some

-- ---- what the digits say

-- digits behind a number: it moves up
moved : (n : ℕ) (ds : List ℕ) → digits_number n ds ≡ n * 10 ^ length ds + digits_number 0 ds
moved n [] = omega arith
moved n (b ∷ ds) =
    let p = 10 ^ length ds in
    let this = moved (10 * n + (b - 48)) ds in
    let that = moved (10 * 0 + (b - 48)) ds in
    let more : 10 ^ suc (length ds) ≡ 10 * p = pow-succ' 10 (length ds) in
    let out : (10 * n + (b - 48)) * p ≡ n * (10 * p) + (10 * 0 + (b - 48)) * p = omega arith in
    let pushed : n * 10 ^ suc (length ds) ≡ n * (10 * p) = ap (λ (k : ℕ). n * k) more in
    omega (arith, this, that, out, pushed)

-- So many digits of r/d leave a rest: together they are the number, and where the rest isn't 0 all digits were used.
record Divided (k r d : ℕ) : Type 0 where
  rest : ℕ
  less : rest < d
  value : digits_number 0 (digits_behind k r d) * d + rest ≡ r * 10 ^ length (digits_behind k r d)
  used : (rest ≡ 0) ⊎ (length (digits_behind k r d) ≡ k)
  digits : AllByRecursion IsDigit (digits_behind k r d)

stops : (k r d : ℕ) → r < d → digits_behind k r d ≡ [] → (r ≡ 0) ⊎ (0 ≡ k) → Divided k r d
stops k r d less none why = record {
  rest = r;
  less = less;
  value = subst (λ (ds : List ℕ). digits_number 0 ds * d + r ≡ r * 10 ^ length ds) (sym none) (omega arith);
  used = subst (λ (ds : List ℕ). (r ≡ 0) ⊎ (length ds ≡ k)) (sym none) why;
  digits = subst (AllByRecursion IsDigit) (sym none) tt;
}

joins : (v q r s d p n : ℕ) → d * q + s ≡ 10 * r → v * d + n ≡ s * p → (q * p + v) * d + n ≡ r * (10 * p)
joins v q r s d p n e f =
    let scaled : (d * q + s) * p ≡ (10 * r) * p = ap (λ (k : ℕ). k * p) e in
    omega (arith, scaled, f)

goes_on : (k r d : ℕ) → r < d → (r == 0) ≡ false → Divided k ((10 * r) % d) d → Divided (suc k) r d
goes_on k r d less some h =
    let q = (10 * r) / d in
    let ds = digits_behind k ((10 * r) % d) d in
    let p = 10 ^ length ds in
    let is : digits_behind (suc k) r d ≡ (48 + q) ∷ ds = one_digit k r d some in
    let below : q < 10 = next_digit r d less in
    let out : digits_number 0 ((48 + q) ∷ ds) ≡ q * p + digits_number 0 ds =
    moved (10 * 0 + ((48 + q) - 48)) ds ∙ ap (λ (j : ℕ). j * p + digits_number 0 ds) (omega arith) in
    let whole : (q * p + digits_number 0 ds) * d + h.rest ≡ r * (10 * p) = joins (digits_number 0 ds) q r ((10 * r) % d) d p h.rest (div-add-mod (10 * r) d) h.value in
    let value : digits_number 0 ((48 + q) ∷ ds) * d + h.rest ≡ r * 10 ^ length ((48 + q) ∷ ds) =
    ap (λ (j : ℕ). j * d + h.rest) out ∙ whole ∙ ap (λ (j : ℕ). r * j) (sym (pow-succ' 10 (length ds))) in
    record {
      rest = h.rest;
      less = h.less;
      value = subst (λ (es : List ℕ). digits_number 0 es * d + h.rest ≡ r * 10 ^ length es) (sym is) value;
      used = subst (λ (es : List ℕ). (h.rest ≡ 0) ⊎ (length es ≡ suc k)) (sym is) (longer h.used);
      digits = subst (AllByRecursion IsDigit) (sym is) ((omega arith, omega (arith, below)), h.digits);
    }
  where
    longer : {A : Type 0} {m n : ℕ} → A ⊎ (m ≡ n) → A ⊎ (suc m ≡ suc n)
    longer (inl x) = inl x
    longer (inr e) = inr (ap suc e)

divided : (k r d : ℕ) → r < d → Divided k r d
divided zero r d less = stops zero r d less (out_of_digits r d) (inr refl)
divided (suc k) r d less = by (r == 0) refl (divided k ((10 * r) % d) d (next_rest (10 * r) d (omega (arith, less))))
  where
    by : (b : Bool) → (r == 0) ≡ b → Divided k ((10 * r) % d) d → Divided (suc k) r d
    by true e h = stops (suc k) r d less (ap (λ (n : ℕ). digits_behind (suc k) n d) (is_zero r e) ∙ no_digits (suc k) d) (inl (is_zero r e))
    by false e h = goes_on k r d less e h

-- ---- where the denominator divides the power of ten

-- a rest that the denominator divides is 0
no_rest : (v w s d : ℕ) → s < d → v * d + s ≡ w * d → s ≡ 0
no_rest v w s d less e =
    sym (mod-eq_of_lt {n = s} {m = d} less) ∙ sym (mul-add-mod_self_right v d s) ∙ ap (λ (n : ℕ). n % d) e ∙ mul-mod_left w d

-- r over d times c * d
multiple : (r c d p : ℕ) → c * d ≡ p → r * p ≡ (r * c) * d
multiple r c d p e = ap (λ (n : ℕ). r * n) (sym e) ∙ omega arith

whole_times : (n d : ℕ) → n % d ≡ 0 → (n / d) * d ≡ n
whole_times n d e = let k = div-add-mod n d in omega (arith, k, e)

exact : (r d : ℕ) → 1000000000 % d ≡ 0 → (h : Divided 9 r d) → h.rest ≡ 0
exact r d e h = ⊎_elim (λ z. z) all h.used
  where
    all : length (digits_behind 9 r d) ≡ 9 → h.rest ≡ 0
    all l =
        let c = 1000000000 / d in
        no_rest (digits_number 0 (digits_behind 9 r d)) (r * c) h.rest d h.less
        (h.value ∙ ap (λ (k : ℕ). r * 10 ^ k) l ∙ multiple r c d 1000000000 (whole_times 1000000000 d e))

divides : (d : ℕ) → has_decimal d ≡ true → 1000000000 % d ≡ 0
divides d h = is_zero (1000000000 % d) (and_right (nat_le d 1000000000) (1000000000 % d == 0) (and_right (nat_le 1 d) (nat_le d 1000000000 && 1000000000 % d == 0) h))

pub decimal_value : (r d : ℕ) → r < d → has_decimal d ≡ true → digits_number 0 (digits_behind 9 r d) * d ≡ r * 10 ^ length (digits_behind 9 r d)
decimal_value r d less h =
    let all : Divided 9 r d = divided 9 r d less in
    let none : all.rest ≡ 0 = exact r d (divides d h) all in
    let value = all.value in
    omega (arith, value, none)

pub decimal_digits : (r d : ℕ) → r < d → AllByRecursion IsDigit (digits_behind 9 r d)
decimal_digits r d less = (divided 9 r d less).digits

-- ---- digits that are put

pub nothing_left : (text : List ℕ) (k r d : ℕ) → k ≡ 0 → text ≡ text ++ digits_behind k r d
nothing_left text k r d e = sym (append-nil text) ∙ ap (λ (l : List ℕ). text ++ l) (sym (ap (λ (n : ℕ). digits_behind n r d) e ∙ out_of_digits r d))

pub nothing_behind : (text : List ℕ) (k r d : ℕ) → r ≡ 0 → text ≡ text ++ digits_behind k r d
nothing_behind text k r d e = sym (append-nil text) ∙ ap (λ (l : List ℕ). text ++ l) (sym (ap (λ (n : ℕ). digits_behind k n d) e ∙ no_digits k d))

not_zero : (r : ℕ) → (r ≡ 0 → ⊥) → (r == 0) ≡ false
not_zero r some = ⊎_elim (λ t. absurd (some t.1)) (λ t. t.0) (eqb_tells r 0)

all_digits : (k r d : ℕ) → (k ≡ 0 → ⊥) → (r ≡ 0 → ⊥) → digits_behind k r d ≡ (48 + (10 * r) / d) ∷ digits_behind (k - 1) ((10 * r) % d) d
all_digits zero r d some more = absurd (some refl)
all_digits (suc k) r d some more =
    let less : k ≡ suc k - 1 = omega arith in
    one_digit k r d (not_zero r more) ∙ ap (λ (n : ℕ). (48 + (10 * r) / d) ∷ digits_behind n ((10 * r) % d) d) less

pub more_digits : {T E : Type 0} (result : Result T E) (text middle now : List ℕ) (b k r d : ℕ) → (k ≡ 0 → ⊥) → (r ≡ 0 → ⊥) → b ≡ 48 + (10 * r) / d → middle ≡ text ++ b ∷ []
    → OnOk result (now ≡ middle ++ digits_behind (k - 1) ((10 * r) % d) d) → OnOk result (now ≡ text ++ digits_behind k r d)
more_digits result text middle now b k r d some more is put rest =
    subst (λ (l : List ℕ). OnOk result (now ≡ text ++ l)) (sym (all_digits k r d some more ∙ ap (λ (j : ℕ). j ∷ digits_behind (k - 1) ((10 * r) % d) d) (sym is)))
    (last_two result text middle now (b ∷ []) (digits_behind (k - 1) ((10 * r) % d) d) put rest)
