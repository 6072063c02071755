-- Numbers in decimal are worded as numbers, and tell what they were.
use Rattle.std.proofs.Common.{◌≡◌, ℕ, ◌+◌, ◌*◌, ◌-◌, ◌/◌, ◌%◌, ◌^◌, ◌<◌, ◌≤◌, List, [], ◌∷◌, ◌++◌, refl, sym, ap, subst, ◌∙◌, arith, true, false}
use Rattle.std.specs.Prelude.{nat_le, ◌==◌}
use Rattle.std.proofs.lemmas.Bool.Decides.{nat_tests}
use Rattle.ded_lex.specs.Lexemes.{digit_byte, BeginsWith, Each}
use Rattle.ded_lex.proofs.Shared.{is_digit}
use Rattle.ded_print.specs.Numbers.{number_text}
use Rattle.ded_print.proofs.Numerals.{by_digits}
use Rattle.ded_terminals.specs.Symbols.{Number, number_from, number_of}
use Rattle.ded_reread.proofs.Worded.{Worded, number}

each_push : (ds : List ℕ) (c : ℕ) → Each digit_byte ds → digit_byte c ≡ true → Each digit_byte (ds ++ c ∷ [])
each_push [] c h d = (d, tt)
each_push (b ∷ ds) c h d = (h.0, each_push ds c h.1 d)

begins_push : (ds : List ℕ) (c : ℕ) → BeginsWith digit_byte ds → BeginsWith digit_byte (ds ++ c ∷ [])
begins_push [] c h = absurd h
begins_push (b ∷ ds) c h = h

number_push : (a : ℕ) (ds : List ℕ) (c : ℕ) → number_from a (ds ++ c ∷ []) ≡ number_from a ds * 10 + (c - 48)
number_push a [] c = refl
number_push a (d ∷ ds) c = number_push (a * 10 + (d - 48)) ds c

record IsNumeral (n : ℕ) (ds : List ℕ) : Type 0 where
  begins : BeginsWith digit_byte ds
  each : Each digit_byte ds
  tells : number_of ds ≡ n

one_digit : (n : ℕ) → n < 10 → IsNumeral n ((48 + n) ∷ [])
one_digit n h = record { begins = is_digit n h; each = (is_digit n h, tt); tells = omega arith }

more_digits : (n : ℕ) (ds : List ℕ) → 10 ≤ n → IsNumeral (n / 10) ds → IsNumeral n (ds ++ (48 + n % 10) ∷ [])
more_digits n ds l h =
    let d : digit_byte (48 + n % 10) ≡ true = is_digit (n % 10) (omega arith) in
    let e : number_of ds ≡ n / 10 = h.tells in
    let k : number_of (ds ++ (48 + n % 10) ∷ []) ≡ number_of ds * 10 + (48 + n % 10 - 48) = number_push 0 ds (48 + n % 10) in
    record { begins = begins_push ds (48 + n % 10) h.begins; each = each_push ds (48 + n % 10) h.each d; tells = k ∙ omega (arith, e) }

numeral : (n : ℕ) → IsNumeral n (number_text n)
numeral = by_digits IsNumeral one_digit more_digits

pub number_back : (n : ℕ) → number_of (number_text n) ≡ n
number_back n = (numeral n).tells

pub number_begins : (n : ℕ) → BeginsWith digit_byte (number_text n)
number_begins n = (numeral n).begins

small : (n : ℕ) → n < 2 ^ 63 → nat_le (2 ^ 63) n ≡ false
small n h = grind (arith, nat_tests)

pub number_worded : (n : ℕ) → n < 2 ^ 63 → Worded (number_text n) (Number (number_text n) ∷ [])
number_worded n h = number (number_text n) (numeral n).begins (numeral n).each (small (number_of (number_text n)) (subst (λ (k : ℕ). k < 2 ^ 63) (sym (number_back n)) h))

pub some_number : (n : ℕ) → 0 < n → (number_of (number_text n) == 0) ≡ false
some_number n h = let e : (n == 0) ≡ false = grind (arith, nat_tests) in ap (λ (k : ℕ). k == 0) (number_back n) ∙ e
