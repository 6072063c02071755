-- Lengths that are counted from a place on.
use Rattle.std.proofs.Common.{◌≡◌, ◌≢◌, ◌<◌, ℕ, suc, ◌+◌, List, ◌∷◌, length, drop, Bool, true, false, refl, ap, ◌∙◌, arith}
use Rattle.std.specs.Prelude.{Option, Some, None, not}
use Rattle.std.proofs.Math.ListN.{get_or}
use Rattle.std.proofs.Math.Seq.{drop-cons}
use Rattle.ded_lex.specs.Lexemes.{digit_byte, text_byte}
use Rattle.ded_lex.specs.Fronts.{longer, decimal_rest, quoted_rest}
use Rattle.ded_lex.proofs.Cases.{is_not}

-- this many bytes before the length
abbrev pub plus : ℕ → Option ℕ → Option ℕ
plus i None = None
plus i (Some n) = Some (i + n)

pub plus_longer : (i : ℕ) (o : Option ℕ) → plus i (longer o) ≡ plus (i + 1) o
plus_longer i None = refl
plus_longer i (Some n) = let same : i + (n + 1) ≡ (i + 1) + n = omega arith in ap Some same

pub plus_zero : (o : Option ℕ) → o ≡ plus 0 o
plus_zero None = refl
plus_zero (Some n) = let same : n ≡ 0 + n = omega arith in ap Some same

-- Steps through a quoted text.
quote_step : (closed : Bool) (bs : List ℕ) → quoted_rest closed (39 ∷ bs) ≡ longer (quoted_rest (not closed) bs)
quote_step true bs = refl
quote_step false bs = refl

pub text_step : (b : ℕ) (bs : List ℕ) → b ≢ 39 → text_byte b ≡ true → quoted_rest false (b ∷ bs) ≡ longer (quoted_rest false bs)
text_step b bs ne text = rw (is_not b 39 ne, text) refl

pub drop_first : (bytes : List ℕ) (i : ℕ) → i < length bytes → drop i bytes ≡ get_or bytes i 0 ∷ drop (i + 1) bytes
drop_first bytes i lt = let same : suc i ≡ i + 1 = omega arith in drop-cons bytes i 0 lt ∙ ap (λ (n : ℕ). get_or bytes i 0 ∷ drop n bytes) same

pub quote_on : (bytes : List ℕ) (i : ℕ) (closed : Bool) → i < length bytes → get_or bytes i 0 ≡ 39 → quoted_rest false bytes ≡ plus i (quoted_rest closed (drop i bytes)) → quoted_rest false bytes ≡ plus (i + 1) (quoted_rest (not closed) (drop (i + 1) bytes))
quote_on bytes i closed lt e before =
    before
    ∙ ap (plus i) (ap (quoted_rest closed) (drop_first bytes i lt ∙ ap (λ (x : ℕ). x ∷ drop (i + 1) bytes) e) ∙ quote_step closed (drop (i + 1) bytes))
    ∙ plus_longer i (quoted_rest (not closed) (drop (i + 1) bytes))

pub text_on : (bytes : List ℕ) (i : ℕ) (closed : Bool) → i < length bytes → get_or bytes i 0 ≢ 39 → closed ≡ false → text_byte (get_or bytes i 0) ≡ true → quoted_rest false bytes ≡ plus i (quoted_rest closed (drop i bytes)) → quoted_rest false bytes ≡ plus (i + 1) (quoted_rest closed (drop (i + 1) bytes))
text_on bytes i true lt ne f text before = absurd cc
text_on bytes i false lt ne f text before =
    before
    ∙ ap (plus i) (ap (quoted_rest false) (drop_first bytes i lt) ∙ text_step (get_or bytes i 0) (drop (i + 1) bytes) ne text)
    ∙ plus_longer i (quoted_rest false (drop (i + 1) bytes))

-- A step through the digits of a decimal.
digit_step : (b : ℕ) (bs : List ℕ) → digit_byte b ≡ true → decimal_rest (b ∷ bs) ≡ longer (decimal_rest bs)
digit_step b bs d = rw d refl

pub digit_on : (bytes : List ℕ) (i : ℕ) → i < length bytes → digit_byte (get_or bytes i 0) ≡ true → decimal_rest bytes ≡ plus i (decimal_rest (drop i bytes)) → decimal_rest bytes ≡ plus (i + 1) (decimal_rest (drop (i + 1) bytes))
digit_on bytes i lt d before =
    before
    ∙ ap (plus i) (ap decimal_rest (drop_first bytes i lt) ∙ digit_step (get_or bytes i 0) (drop (i + 1) bytes) d)
    ∙ plus_longer i (decimal_rest (drop (i + 1) bytes))
