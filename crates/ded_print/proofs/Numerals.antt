-- The text of a number, digit by digit: it is made of digits, and it tells the number.
use Rattle.std.proofs.Common.{◌≡◌, ℕ, zero, suc, ◌+◌, ◌*◌, ◌/◌, ◌%◌, ◌^◌, ◌<◌, ◌≤◌, List, [], ◌∷◌, ◌++◌, length, get_or, refl, sym, ap, ◌∙◌, ⊎_elim, subst, arith, Bool, true, false, cond}
use Rattle.std.specs.Prelude.{◌==◌, nat_lt}
use Rattle.std.specs.Char.{digit_value}
use Rattle.std.specs.Fmt.{digit_glyph, digits_onto}
use Rattle.std.specs.Str.Parse.{AllDigits, IsNumeral, digits_value_after, digits_value}
use Rattle.std.proofs.lemmas.Bool.{le-leb}
use Rattle.std.proofs.lemmas.Bool.Decides.{eqb_tells, leb_tells, nat_tests}
use Rattle.std.proofs.lemmas.List.{length-append}
use Rattle.std.proofs.lemmas.Nat.{pow-add}
use Rattle.ded_print.specs.Numbers.{number_text, count_text}

pub glyph_is : (d : ℕ) → d < 10 → digit_glyph false d ≡ 48 + d
glyph_is d h = let e : nat_lt d 10 ≡ true = le-leb (suc d) 10 (omega (arith, h)) in rw e refl

-- ---- one digit more

onto_last : (k n : ℕ) (acc : List ℕ) → n < 10 → digits_onto (suc k) 10 false n acc ≡ digit_glyph false (n % 10) ∷ acc
onto_last k n acc h = ⊎_elim
    (λ e. ap (λ t. cond t (digit_glyph false (n % 10) ∷ acc) (digits_onto k 10 false (n / 10) (digit_glyph false (n % 10) ∷ acc))) e.0)
    (λ e. absurd (e.1 (omega (arith, h))))
    (eqb_tells (n / 10) 0)

onto_next : (k n : ℕ) (acc : List ℕ) → 10 ≤ n → digits_onto (suc k) 10 false n acc ≡ digits_onto k 10 false (n / 10) (digit_glyph false (n % 10) ∷ acc)
onto_next k n acc h = ⊎_elim
    (λ e. absurd (omega (arith, h, e.1)))
    (λ e. ap (λ t. cond t (digit_glyph false (n % 10) ∷ acc) (digits_onto k 10 false (n / 10) (digit_glyph false (n % 10) ∷ acc))) e.0)
    (eqb_tells (n / 10) 0)

-- the digits go before what stands there
pub onto_append : (k n : ℕ) (xs ys : List ℕ) → digits_onto k 10 false n xs ++ ys ≡ digits_onto k 10 false n (xs ++ ys)
onto_append zero n xs ys = refl
onto_append (suc k) n xs ys = either (n / 10 == 0) (digit_glyph false (n % 10) ∷ xs) _ _ (onto_append k (n / 10) (digit_glyph false (n % 10) ∷ xs) ys)
  where
    either : (t : Bool) (a b d : List ℕ) → b ++ ys ≡ d → cond t a b ++ ys ≡ cond t (a ++ ys) d
    either true a b d e = refl
    either false a b d e = e

-- of enough steps it doesn't matter how many they are
enough : (j k n : ℕ) (acc : List ℕ) → n < 10 ^ suc j → n < 10 ^ suc k → digits_onto (suc j) 10 false n acc ≡ digits_onto (suc k) 10 false n acc
enough zero k n acc p q = onto_last zero n acc (omega (arith, p)) ∙ sym (onto_last k n acc (omega (arith, p)))
enough (suc j) zero n acc p q = onto_last (suc j) n acc (omega (arith, q)) ∙ sym (onto_last zero n acc (omega (arith, q)))
enough (suc j) (suc k) n acc p q = ⊎_elim
    (λ l. onto_last (suc j) n acc (omega (arith, l.1)) ∙ sym (onto_last (suc k) n acc (omega (arith, l.1))))
    (λ l. onto_next (suc j) n acc (omega (arith, l.1)) ∙ enough j k (n / 10) (digit_glyph false (n % 10) ∷ acc) (omega (arith, p)) (omega (arith, q)) ∙ sym (onto_next (suc k) n acc (omega (arith, l.1))))
    (leb_tells (suc n) 10)

-- one step less than are taken
abbrev pub steps : ℕ → ℕ
steps n = suc (62 + n / 10 ^ 64)

pub as_steps : (n : ℕ) → number_text n ≡ digits_onto (suc (steps n)) 10 false n []
unfolding number_text
as_steps n = let e : 64 + n / 10 ^ 64 ≡ suc (steps n) = omega arith in ap (λ k. digits_onto k 10 false n []) e

grows : (q : ℕ) → q + 1 ≤ 10 ^ q
grows zero = omega arith
grows (suc q) = omega (arith, grows q)

-- that many steps are enough
below_power : (n q p r : ℕ) → q ≡ n / 10 ^ 64 → q + 1 ≤ p → r ≡ 10 ^ 62 * p → n < 10 * (10 * r)
below_power n q p r e h k = omega (arith, e, h, k)

power_more : (n k : ℕ) → n < 10 * (10 * 10 ^ k) → n < 10 ^ suc (suc k)
power_more n k h = omega (arith, h)

within : (n : ℕ) → n < 10 ^ suc (steps n)
within n =
    let q : ℕ = n / 10 ^ 64 in
    power_more n (62 + q) (below_power n q (10 ^ q) (10 ^ (62 + q)) refl (grows q) (pow-add 10 62 q))

pub number_one : (n : ℕ) → n < 10 → number_text n ≡ (48 + n) ∷ []
number_one n h =
    let same : n % 10 ≡ n = omega (arith, h) in
    as_steps n ∙ onto_last (steps n) n [] h ∙ ap (λ d. d ∷ []) (ap (digit_glyph false) same ∙ glyph_is n h)

pub number_more : (n : ℕ) → 10 ≤ n → number_text n ≡ number_text (n / 10) ++ (48 + n % 10) ∷ []
number_more n h =
    let d = digit_glyph false (n % 10) in
    let q : ℕ = n / 10 in
    let fits : q < 10 ^ steps n = omega (arith, within n) in
    as_steps n ∙ onto_next (steps n) n [] h ∙ enough (62 + n / 10 ^ 64) (steps q) q (d ∷ []) fits (within q) ∙ sym (onto_append (suc (steps q)) q [] (d ∷ []))
    ∙ ap (λ l. l ++ d ∷ []) (sym (as_steps q)) ∙ ap (λ c. number_text q ++ c ∷ []) (glyph_is (n % 10) (omega arith))

-- what is so of a number of one digit, and of a number where it is so of the number without its last digit
module _ (P : ℕ → List ℕ → Type 0) (one : (n : ℕ) → n < 10 → P n ((48 + n) ∷ [])) (more : (n : ℕ) (ds : List ℕ) → 10 ≤ n → P (n / 10) ds → P n (ds ++ (48 + n % 10) ∷ [])) where
  up_to : (k n : ℕ) → n ≤ k → P n (number_text n)
  up_to zero n le = subst (P n) (sym (number_one n (omega (arith, le)))) (one n (omega (arith, le)))
  up_to (suc k) n le = ⊎_elim
      (λ l. subst (P n) (sym (number_one n (omega (arith, l.1)))) (one n (omega (arith, l.1))))
      (λ l. subst (P n) (sym (number_more n (omega (arith, l.1)))) (more n (number_text (n / 10)) (omega (arith, l.1)) (up_to k (n / 10) (omega (arith, le, l.1)))))
      (leb_tells (suc n) 10)

  pub by_digits : (n : ℕ) → P n (number_text n)
  by_digits n = up_to n n (omega arith)

-- ---- what the digits tell

digit_is : (d : ℕ) → d < 10 → digit_value (48 + d) ≡ d
digit_is d h =
    let low : nat_lt (48 + d) 48 ≡ false = grind (arith, nat_tests) in
    let high : nat_lt (48 + d) 58 ≡ true = grind (arith, nat_tests) in
    rw (low, high) (omega arith)

value-push : (a : ℕ) (ds : List ℕ) (c : ℕ) → digits_value_after 10 a (ds ++ c ∷ []) ≡ digits_value_after 10 a ds * 10 + digit_value c
value-push a [] c = refl
value-push a (d ∷ ds) c = value-push (a * 10 + digit_value d) ds c

pub number_value : (n : ℕ) → digits_value 10 (number_text n) ≡ n
number_value = by_digits (λ m ds. digits_value 10 ds ≡ m)
    (λ m l. let e = digit_is m l in omega (arith, e))
    (λ m ds l e. let d = digit_is (m % 10) (omega arith) in value-push 0 ds (48 + m % 10) ∙ omega (arith, d, e))

digits-push : (ds : List ℕ) (c : ℕ) → AllDigits 10 ds → digit_value c < 10 → AllDigits 10 (ds ++ c ∷ [])
digits-push [] c h d = (d, tt)
digits-push (b ∷ ds) c h d = (h.0, digits-push ds c h.1 d)

pub number_numeral : (n : ℕ) → IsNumeral 10 (number_text n)
number_numeral = by_digits (λ m ds. IsNumeral 10 ds)
    (λ m l. let e = digit_is m l in (omega arith, (omega (arith, e, l), tt)))
    (λ m ds l h. let d = digit_is (m % 10) (omega arith) in (omega (arith, length-append ds ((48 + m % 10) ∷ [])), digits-push ds (48 + m % 10) h.1 (omega (arith, d))))

-- the first digit
record Leads (n : ℕ) (ds : List ℕ) : Type 0 where
  some : 0 < length ds
  above : 0 < n → 48 < get_or ds 0 0

leads-push : (n : ℕ) (ds : List ℕ) (c : ℕ) → 10 ≤ n → Leads (n / 10) ds → Leads n (ds ++ c ∷ [])
leads-push n [] c l h = absurd (omega (arith, h.some))
leads-push n (d ∷ ds) c l h = record { some = omega arith; above = λ p. h.above (omega (arith, l)) }

leads : (n : ℕ) → Leads n (number_text n)
leads = by_digits Leads (λ m l. record { some = omega arith; above = λ p. omega (arith, p) }) (λ m ds l h. leads-push m ds (48 + m % 10) l h)

pub number_leads : (n : ℕ) → 0 < n → 48 < get_or (number_text n) 0 0
number_leads n h = (leads n).above h

-- two numbers that are written alike are the same
pub same_number : (k j : ℕ) → number_text k ≡ number_text j → k ≡ j
same_number k j e = sym (number_value k) ∙ ap (digits_value 10) e ∙ number_value j

-- ---- what is written of counts

pub count_is : (n : ℕ) → n < 10 ^ 64 → count_text n ≡ number_text n
unfolding count_text
count_is n h = enough 63 (steps n) n [] h (within n) ∙ sym (as_steps n)
