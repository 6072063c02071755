-- The terms of a row are read back.
use Rattle.std.proofs.Common.{◌≡◌, ℕ, zero, suc, ◌^◌, ◌<◌, ◌≤◌, List, [], ◌∷◌, ◌++◌, length, map, refl, sym, ap, ◌∙◌, subst, arith, Bool, true, false, append_assoc, append-nil, length-append}
use Rattle.std.specs.Prelude.{ℤ, pos, unsigned_abs, int_lt, Option, Some, None, if◌then◌else◌, ◌==◌, codes}
use Rattle.std.specs.List.{AllByRecursion}
use Rattle.std.proofs.lemmas.Bool.Decides.{nat_tests}
use Rattle.std.proofs.lemmas.Bool.{eqb-true}
use Rattle.ded_model.specs.declared.slot.Slot.{Slot}
use Rattle.ded_model.specs.declared.name.Column.{Column}
use Rattle.ded_lex.specs.Lexemes.{digit_byte, letter_byte, word_byte, BeginsNot}
use Rattle.ded_print.specs.Numbers.{number_text}
use Rattle.ded_print.specs.Tuples.{column_names, term_text, sign_text, signed, later_term_text, later_terms_text}
use Rattle.ded_readback.specs.declared.terms.Summand.{Summand}
use Rattle.ded_readback.specs.Plain.{IsWord}
use Rattle.ded_readback.specs.Reading.{◌>>=◌, behind, digits_from, term_of, multiple_at, term_by, term_at, sign_at, later_at, terms_by, terms_from}
use Rattle.ded_readback.proofs.Digits.{number_read}
use Rattle.ded_readback.proofs.Names.{IsNamed, slot_read}

-- ---- a term

abbrev pub summand : Slot → Bool → ℕ → Summand
summand s minus n = record { slot = s; minus = minus; magnitude = n }

-- so many times a named slot
multiple_read : (h : List Column) (s : Slot) (minus : Bool) (n : ℕ) (rest : List ℕ) → IsNamed h s → BeginsNot word_byte rest → multiple_at h minus n (column_names h s ++ rest) ≡ Some (summand s minus n, rest)
multiple_read h s minus n rest named stops = ap (λ (o : Option (Slot × List ℕ)). o >>= term_of minus n) (slot_read h s rest named stops)

letter_no_digit : (b : ℕ) → letter_byte b ≡ true → digit_byte b ≡ false
letter_no_digit b h = grind (arith, nat_tests)

letter_no_star : (b : ℕ) → letter_byte b ≡ true → (b == 42) ≡ false
letter_no_star b h = grind (arith, nat_tests)

-- no number and no `*` stand before a word
word_first : (h : List Column) (minus : Bool) (w rest : List ℕ) → IsWord w → term_at h minus (w ++ rest) ≡ multiple_at h minus 1 (w ++ rest)
word_first h minus [] rest word = absurd word.0
word_first h minus (b ∷ w) rest word =
    let none : digits_from 0 (b ∷ (w ++ rest)) ≡ (0, b ∷ (w ++ rest)) = rw (letter_no_digit b word.0) refl in
    ap (λ (d : ℕ × List ℕ). term_by h minus d.0 (b ∷ (w ++ rest)) (behind (codes "*") d.1)) none
    ∙ rw (letter_no_star b word.0) refl

many_read : (h : List Column) (s : Slot) (minus : Bool) (n : ℕ) (rest : List ℕ) → IsNamed h s → n < 2 ^ 127 → BeginsNot word_byte rest
    → term_at h minus (number_text n ++ (42 ∷ (column_names h s ++ rest))) ≡ Some (summand s minus n, rest)
many_read h s minus n rest named short stops =
    let after = 42 ∷ (column_names h s ++ rest) in
    ap (λ (d : ℕ × List ℕ). term_by h minus d.0 (number_text n ++ after) (behind (codes "*") d.1)) (number_read n after short refl)
    ∙ multiple_read h s minus n rest named stops

pub lone_read : (h : List Column) (s : Slot) (minus : Bool) (rest : List ℕ) → IsNamed h s → BeginsNot word_byte rest
    → term_at h minus (column_names h s ++ rest) ≡ Some (summand s minus 1, rest)
lone_read h s minus rest named stops = word_first h minus (column_names h s) rest named.word ∙ multiple_read h s minus 1 rest named stops

either_read : (h : List Column) (s : Slot) (minus : Bool) (n : ℕ) (rest : List ℕ) (t : Bool) → (n == 1) ≡ t → IsNamed h s → n < 2 ^ 127 → BeginsNot word_byte rest
    → term_at h minus ((if t then column_names h s else (number_text n ++ (42 ∷ column_names h s))) ++ rest) ≡ Some (summand s minus n, rest)
either_read h s minus n rest true e named short stops =
    lone_read h s minus rest named stops ∙ ap (λ (k : ℕ). Some (summand s minus k, rest)) (sym (eqb-true n 1 e))
either_read h s minus n rest false e named short stops =
    ap (term_at h minus) (append_assoc (number_text n) (42 ∷ column_names h s) rest) ∙ many_read h s minus n rest named short stops

pub term_read : (h : List Column) (s : Slot) (minus : Bool) (z : ℤ) (rest : List ℕ) → IsNamed h s → unsigned_abs z < 2 ^ 127 → BeginsNot word_byte rest
    → term_at h minus (term_text (column_names h) s z ++ rest) ≡ Some (summand s minus (unsigned_abs z), rest)
term_read h s minus z rest named short stops = either_read h s minus (unsigned_abs z) rest (unsigned_abs z == 1) refl named short stops

-- ---- further terms

sign_read : (t : Bool) (text : List ℕ) → sign_at ((if t then codes " - " else codes " + ") ++ text) ≡ Some (t, text)
sign_read true text = refl
sign_read false text = refl

pub later_read : (h : List Column) (s : Slot) (z : ℤ) (rest : List ℕ) → IsNamed h s → unsigned_abs z < 2 ^ 127 → BeginsNot word_byte rest
    → later_at h (later_term_text (column_names h) s z ++ rest) ≡ Some (summand s (int_lt z (pos 0)) (unsigned_abs z), rest)
later_read h s z rest named short stops =
    ap (later_at h) (append_assoc (sign_text z) (term_text (column_names h) s z) rest)
    ∙ ap (λ (o : Option (Bool × List ℕ)). o >>= λ x. term_at h x.0 x.1) (sign_read (int_lt z (pos 0)) (term_text (column_names h) s z ++ rest))
    ∙ term_read h s (int_lt z (pos 0)) z rest named short stops

-- what is read of a coefficient, where all signs are turned or not
abbrev pub summand_of : Bool → Slot × ℤ → Summand
summand_of turned c = summand c.0 (int_lt (signed turned c.1) (pos 0)) (unsigned_abs (signed turned c.1))

-- the slot is named, and the number has at most 127 digits
abbrev pub IsFactor : List Column → Bool → Slot × ℤ → Type 0
IsFactor h turned c = IsNamed h c.0 × (unsigned_abs (signed turned c.1) < 2 ^ 127)

sign_begins : (t : Bool) (text : List ℕ) → BeginsNot word_byte ((if t then codes " - " else codes " + ") ++ text)
sign_begins true text = refl
sign_begins false text = refl

pub later_begins : (h : List Column) (turned : Bool) (cs : List (Slot × ℤ)) (rest : List ℕ) → BeginsNot word_byte rest → BeginsNot word_byte (later_terms_text (column_names h) turned cs ++ rest)
later_begins h turned [] rest stops = stops
later_begins h turned (c ∷ cs) rest stops =
    let z = signed turned c.1 in
    let text = term_text (column_names h) c.0 z in
    let more = later_terms_text (column_names h) turned cs in
    subst (BeginsNot word_byte)
    (sym (append_assoc (sign_text z ++ text) more rest ∙ append_assoc (sign_text z) text (more ++ rest)))
    (sign_begins (int_lt z (pos 0)) (text ++ (more ++ rest)))

terms_end : (h : List Column) (k : ℕ) (ts : List Summand) (rest : List ℕ) → later_at h rest ≡ None → terms_from h k ts rest ≡ (ts, rest)
terms_end h zero ts rest none = refl
terms_end h (suc k) ts rest none = ap (terms_by (terms_from h k) ts rest) none

pub terms_read : (h : List Column) (turned : Bool) (cs : List (Slot × ℤ)) (k : ℕ) (ts : List Summand) (rest : List ℕ)
    → AllByRecursion (IsFactor h turned) cs → length cs ≤ k → BeginsNot word_byte rest → later_at h rest ≡ None
    → terms_from h k ts (later_terms_text (column_names h) turned cs ++ rest) ≡ (ts ++ map (summand_of turned) cs, rest)
terms_read h turned [] k ts rest each few stops none =
    terms_end h k ts rest none ∙ ap (λ (l : List Summand). (l, rest)) (sym (append-nil ts))
terms_read h turned (c ∷ cs) zero ts rest each few stops none = absurd (omega (arith, few))
terms_read h turned (c ∷ cs) (suc k) ts rest each few stops none =
    let z = signed turned c.1 in
    let here = later_term_text (column_names h) c.0 z in
    let more = later_terms_text (column_names h) turned cs in
    ap (terms_from h (suc k) ts) (append_assoc here more rest)
    ∙ ap (terms_by (terms_from h k) ts (here ++ (more ++ rest))) (later_read h c.0 z (more ++ rest) each.0.0 each.0.1 (later_begins h turned cs rest stops))
    ∙ terms_read h turned cs k (ts ++ summand_of turned c ∷ []) rest each.1 (omega (arith, few)) stops none
    ∙ ap (λ (l : List Summand). (l, rest)) (append_assoc ts (summand_of turned c ∷ []) (map (summand_of turned) cs))

-- each term has a byte at least
sign_length : (t : Bool) → length (if t then codes " - " else codes " + ") ≡ 3
sign_length true = refl
sign_length false = refl

pub terms_length : (h : List Column) (turned : Bool) (cs : List (Slot × ℤ)) → length cs ≤ length (later_terms_text (column_names h) turned cs)
terms_length h turned [] = omega arith
terms_length h turned (c ∷ cs) =
    let z = signed turned c.1 in
    let text = term_text (column_names h) c.0 z in
    omega (arith, terms_length h turned cs, sign_length (int_lt z (pos 0)), length-append (sign_text z) text, length-append (sign_text z ++ text) (later_terms_text (column_names h) turned cs))
