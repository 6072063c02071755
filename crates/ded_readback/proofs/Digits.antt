-- Numbers in decimal are read back.
use Rattle.std.proofs.Common.{◌≡◌, ℕ, zero, suc, ◌+◌, ◌*◌, ◌/◌, ◌%◌, ◌^◌, ◌<◌, List, [], ◌∷◌, ◌++◌, refl, sym, ap, ◌∙◌, subst, arith, Bool, true, false}
use Rattle.std.specs.Prelude.{ℤ, pos, negsuc, unsigned_abs, int_lt, None, if◌then◌else◌, ◌==◌, codes}
use Rattle.std.specs.Fmt.{digit_glyph, digits_onto}
use Rattle.std.proofs.lemmas.Bool.Decides.{nat_tests}
use Rattle.std.proofs.lemmas.Bool.{eqb-true}
use Rattle.ded_lex.specs.Lexemes.{digit_byte, BeginsWith, BeginsNot}
use Rattle.ded_lex.proofs.Shared.{is_digit}
use Rattle.ded_print.specs.Numbers.{number_text, integer_text, count_text}
use Rattle.ded_print.proofs.Numerals.{glyph_is, onto_append, steps, as_steps, count_is}
use Rattle.ded_readback.specs.Reading.{behind, with_digit, digits_from, with_minus, integer_by, integer_at}

-- ---- digits

below_10 : (n : ℕ) → n % 10 < 10
below_10 n = omega arith

with_digit_is : (m d : ℕ) → m * 10 + d < 2 ^ 127 → with_digit m (48 + d) ≡ m * 10 + d
with_digit_is m d h = omega (arith, h)

-- a digit is read
digit_step : (m d : ℕ) (bs : List ℕ) → d < 10 → m * 10 + d < 2 ^ 127 → digits_from m ((48 + d) ∷ bs) ≡ digits_from (m * 10 + d) bs
digit_step m d bs l h = rw (is_digit d l) (ap (λ (k : ℕ). digits_from k bs) (with_digit_is m d h))

-- the last digit of a number
last_step : (n : ℕ) (bs : List ℕ) → n < 2 ^ 127 → digits_from (n / 10) (digit_glyph false (n % 10) ∷ bs) ≡ digits_from n bs
last_step n bs h =
    let whole : (n / 10) * 10 + n % 10 ≡ n = omega arith in
    ap (λ (b : ℕ). digits_from (n / 10) (b ∷ bs)) (glyph_is (n % 10) (below_10 n))
    ∙ digit_step (n / 10) (n % 10) bs (below_10 n) (omega (arith, whole, h))
    ∙ ap (λ (k : ℕ). digits_from k bs) whole

chosen : (P : List ℕ → Type 0) (t : Bool) (a b : List ℕ) → (t ≡ true → P a) → P b → P (if t then a else b)
chosen P true a b f g = f refl
chosen P false a b f g = g

onto_read : (k n : ℕ) (bs : List ℕ) → n < 10 ^ k → n < 2 ^ 127 → digits_from 0 (digits_onto k 10 false n bs) ≡ digits_from n bs
onto_read zero n bs fits h = let z : 0 ≡ n = omega (arith, fits) in ap (λ (m : ℕ). digits_from m bs) z
onto_read (suc k) n bs fits h =
    let more = digit_glyph false (n % 10) ∷ bs in
    let fewer : n / 10 < 10 ^ k = omega (arith, fits) in
    let less : n / 10 < 2 ^ 127 = omega (arith, h) in
    chosen (λ l. digits_from 0 l ≡ digits_from n bs) (n / 10 == 0) more (digits_onto k 10 false (n / 10) more)
    (λ e. ap (λ (m : ℕ). digits_from m more) (sym (eqb-true (n / 10) 0 e)) ∙ last_step n bs h)
    (onto_read k (n / 10) more fewer less ∙ last_step n bs h)

stopped : (n : ℕ) (rest : List ℕ) → BeginsNot digit_byte rest → digits_from n rest ≡ (n, rest)
stopped n [] h = refl
stopped n (b ∷ bs) h = rw h refl

-- a number is read up to where its digits end
pub number_read : (n : ℕ) (rest : List ℕ) → n < 2 ^ 127 → BeginsNot digit_byte rest → digits_from 0 (number_text n ++ rest) ≡ (n, rest)
unfolding count_text
number_read n rest h stops =
    let wide : n < 10 ^ 64 = omega (arith, h) in
    ap (λ l. digits_from 0 (l ++ rest)) (sym (count_is n wide)) ∙ ap (digits_from 0) (onto_append 64 n [] rest) ∙ onto_read 64 n rest wide h ∙ stopped n rest stops

-- ---- what a number begins with

onto_begins : (k n : ℕ) (bs : List ℕ) → BeginsWith digit_byte bs → BeginsWith digit_byte (digits_onto k 10 false n bs)
onto_begins zero n bs h = h
onto_begins (suc k) n bs h =
    let first : digit_byte (digit_glyph false (n % 10)) ≡ true = ap digit_byte (glyph_is (n % 10) (below_10 n)) ∙ is_digit (n % 10) (below_10 n) in
    chosen (BeginsWith digit_byte) (n / 10 == 0) _ _ (λ e. first) (onto_begins k (n / 10) (digit_glyph false (n % 10) ∷ bs) first)

one_begins : (k n : ℕ) (bs : List ℕ) → BeginsWith digit_byte (digits_onto (suc k) 10 false n bs)
one_begins k n bs =
    let first : digit_byte (digit_glyph false (n % 10)) ≡ true = ap digit_byte (glyph_is (n % 10) (below_10 n)) ∙ is_digit (n % 10) (below_10 n) in
    chosen (BeginsWith digit_byte) (n / 10 == 0) _ _ (λ e. first) (onto_begins k (n / 10) (digit_glyph false (n % 10) ∷ bs) first)

pub number_begins : (n : ℕ) → BeginsWith digit_byte (number_text n)
number_begins n = subst (BeginsWith digit_byte) (sym (as_steps n)) (one_begins (steps n) n [])

-- ---- signed numbers

no_dash : (b : ℕ) → digit_byte b ≡ true → (b == 45) ≡ false
no_dash b h = grind (arith, nat_tests)

digits_no_dash : (ds rest : List ℕ) → BeginsWith digit_byte ds → behind (codes "-") (ds ++ rest) ≡ None
digits_no_dash [] rest h = absurd h
digits_no_dash (b ∷ ds) rest h = rw (no_dash b h) refl

pub integer_read : (z : ℤ) (rest : List ℕ) → unsigned_abs z < 2 ^ 127 → BeginsNot digit_byte rest → integer_at (integer_text z ++ rest) ≡ (int_lt z (pos 0), unsigned_abs z, rest)
integer_read (pos n) rest h stops =
    let plus : int_lt (pos n) (pos 0) ≡ false = grind (arith, nat_tests) in
    ap (integer_by (number_text n ++ rest)) (digits_no_dash (number_text n) rest (number_begins n))
    ∙ ap (with_minus false) (number_read n rest h stops)
    ∙ ap (λ (b : Bool). (b, n, rest)) (sym plus)
integer_read (negsuc n) rest h stops =
    let minus : int_lt (negsuc n) (pos 0) ≡ true = grind (arith, nat_tests) in
    ap (with_minus true) (number_read (suc n) rest h stops)
    ∙ ap (λ (b : Bool). (b, suc n, rest)) (sym minus)
