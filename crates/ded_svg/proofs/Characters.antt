-- What escaped texts are made of.
use Rattle.std.proofs.Common.{◌≡◌, ◌<◌, ◌≤◌, ◌⊎◌, inl, inr, ⊎_elim, ℕ, zero, suc, Bool, true, false, List, [], ◌∷◌, ◌++◌, length, take, get_or, flat_map, chars, IsUtf8, refl, sym, ap, ◌∙◌, subst, true≢false, arith, append-nil}
use Rattle.std.specs.Prelude.{◌≢◌, ◌==◌, not, ◌&&◌, codes, if◌then◌else◌}
use Rattle.std.specs.Char.{encode_utf8, IsScalar, is_control}
use Rattle.std.specs.List.{AllByRecursion, concat}
use Rattle.std.specs.Str.{is_utf8, all_scalars}
use Rattle.std.specs.Str.Lossy.{valid_len_up_to, utf8_valid_len, utf8_lossy, after_first_chunk, replacement_bytes}
use Rattle.std.proofs.lemmas.Bool.{and_parts, cases_lt, cases_eq}
use Rattle.std.proofs.lemmas.Bool.Decides.{eqb_tells, nat_tests}
use Rattle.std.proofs.Math.Seq.{take-length}
use Rattle.std.proofs.lemmas.Str.{IsUtf8-append, IsUtf8-nil, IsUtf8-encode, IsUtf8-from_is_utf8, encode_ascii, inside_one, scalars-chars, utf8_lossy-IsUtf8, utf8_lossy_step}
use Rattle.std.proofs.str.Lossy.{length-after_first_chunk}
use Rattle.ded_svg.specs.Escaping.{is_written, plain_text, character_text, escape, IsEntity, IsPlainByte, IsPlainCharacter, IsEscaped}

choose : (P : List ℕ → Type 0) (b : Bool) (x y : List ℕ) → (b ≡ true → P x) → (b ≡ false → P y) → P (if b then x else y)
choose P true x y f g = f refl
choose P false x y f g = g refl

not_same : (c n : ℕ) → (c == n) ≡ false → c ≢ n
not_same c n e = ⊎_elim (λ t. absurd (true≢false (sym t.0 ∙ e))) (λ t. t.1) (eqb_tells c n)

-- ---- bytes of plain characters

high_plain : (b : ℕ) → 128 ≤ b → IsPlainByte b
high_plain b h = record {
  no_control = omega (arith, h);
  no_ampersand = λ e. omega (arith, h, e);
  no_less = λ e. omega (arith, h, e);
  no_greater = λ e. omega (arith, h, e);
  no_quote = λ e. omega (arith, h, e);
  no_apostrophe = λ e. omega (arith, h, e);
}

all_high : (bs : List ℕ) → ((k : ℕ) → k < length bs → 128 ≤ get_or bs k 0) → AllByRecursion IsPlainByte bs
all_high [] h = tt
all_high (b ∷ bs) h = (high_plain b (h 0 (omega arith)), all_high bs (λ k less. h (suc k) (omega (arith, less))))

-- bytes of a character that isn't ASCII
beyond_ascii : (c : ℕ) → 128 ≤ c → AllByRecursion IsPlainByte (encode_utf8 c)
beyond_ascii c big = all_high (encode_utf8 c) (λ k below. elim (cases_lt (get_or (encode_utf8 c) k 0) 128) [
  | inl low ↦ absurd (omega (arith, big, low, inside_one c [] (encode_utf8 c) k (sym (append-nil _)) below low))
  | inr h ↦ h
])

no_control : (c : ℕ) → not (is_control c) ≡ true → 32 ≤ c
no_control c e = grind (arith, nat_tests)

written_parts : (c : ℕ) → is_written c ≡ true → not (is_control c) ≡ true
written_parts c e = (and_parts (not (is_control c)) (not (c == 0xFFFE) && not (c == 0xFFFF)) e).0

-- a character that has no entity
record HasNoEntity (c : ℕ) : Type 0 where
  no_ampersand : c ≢ 38
  no_less : c ≢ 60
  no_greater : c ≢ 62
  no_quote : c ≢ 34
  no_apostrophe : c ≢ 39

plain_bytes : (c : ℕ) → is_written c ≡ true → HasNoEntity c → AllByRecursion IsPlainByte (encode_utf8 c)
plain_bytes c e h = elim (cases_lt c 128) [
  | inl small ↦ subst (AllByRecursion IsPlainByte) (sym (encode_ascii c small)) (
    record {
      no_control = no_control c (written_parts c e);
      no_ampersand = h.no_ampersand;
      no_less = h.no_less;
      no_greater = h.no_greater;
      no_quote = h.no_quote;
      no_apostrophe = h.no_apostrophe;
    },
    tt,
  )
  | inr big ↦ beyond_ascii c big
]

-- ---- parts

replacement_is : replacement_bytes ≡ encode_utf8 65533
unfolding encode_utf8
replacement_is = refl

replacement_part : IsPlainCharacter replacement_bytes
replacement_part = record {
  code = 65533;
  is_scalar = refl;
  is_written = refl;
  is = replacement_is;
  bytes = subst (AllByRecursion IsPlainByte) (sym replacement_is) (beyond_ascii 65533 (omega arith));
}

plain_part : (c : ℕ) → IsScalar c → HasNoEntity c → IsPlainCharacter (plain_text c)
plain_part c s h = choose IsPlainCharacter (is_written c) (encode_utf8 c) replacement_bytes
    (λ e. record { code = c; is_scalar = s; is_written = e; is = refl; bytes = plain_bytes c e h })
    (λ e. replacement_part)

character_part : (c : ℕ) → IsScalar c → IsEntity (character_text c) ⊎ IsPlainCharacter (character_text c)
character_part c s =
    choose P (c == 38) (codes "&amp;") _ (λ e. inl (inl refl)) (λ no_ampersand.
    choose P (c == 60) (codes "&lt;") _ (λ e. inl (inr (inl refl))) (λ no_less.
    choose P (c == 62) (codes "&gt;") _ (λ e. inl (inr (inr (inl refl)))) (λ no_greater.
    choose P (c == 34) (codes "&quot;") _ (λ e. inl (inr (inr (inr (inl refl))))) (λ no_quote.
    choose P (c == 39) (codes "&apos;") _ (λ e. inl (inr (inr (inr (inr refl))))) (λ no_apostrophe.
    inr (plain_part c s (record {
      no_ampersand = not_same c 38 no_ampersand;
      no_less = not_same c 60 no_less;
      no_greater = not_same c 62 no_greater;
      no_quote = not_same c 34 no_quote;
      no_apostrophe = not_same c 39 no_apostrophe;
    })))))))
  where
    P : List ℕ → Type 0
    P part = IsEntity part ⊎ IsPlainCharacter part

escaped_parts : (cs : List ℕ) → all_scalars cs ≡ true → IsEscaped (flat_map character_text cs)
escaped_parts [] e = record { parts = []; are = tt; is = refl }
escaped_parts (c ∷ cs) e =
    let p = and_parts _ _ e in
    let later = escaped_parts cs p.1 in
    record {
      parts = character_text c ∷ later.parts;
      are = (character_part c p.0, later.are);
      is = ap (λ l. character_text c ++ l) later.is;
    }

-- ---- the text that is read of any bytes is UTF-8

valid_up_to : (bs : List ℕ) (n : ℕ) → IsUtf8 (take (valid_len_up_to bs n) bs)
valid_up_to bs zero = IsUtf8-nil
valid_up_to bs (suc n) = by (is_utf8 (take (suc n) bs)) refl (valid_up_to bs n)
  where
    by : (b : Bool) → is_utf8 (take (suc n) bs) ≡ b → IsUtf8 (take (valid_len_up_to bs n) bs) → IsUtf8 (take (if b then suc n else valid_len_up_to bs n) bs)
    by true e h = IsUtf8-from_is_utf8 (take (suc n) bs) e
    by false e h = h

valid_front : (bs : List ℕ) → IsUtf8 (take (utf8_valid_len bs) bs)
unfolding utf8_valid_len
valid_front bs = valid_up_to bs (length bs)

lossy_whole : (bs : List ℕ) → utf8_valid_len bs ≡ length bs → IsUtf8 (utf8_lossy bs)
lossy_whole bs whole =
    let valid : IsUtf8 bs = subst IsUtf8 (ap (λ n. take n bs) whole ∙ take-length bs) (valid_front bs) in
    subst IsUtf8 (sym (utf8_lossy-IsUtf8 bs valid)) valid

replacement_valid : IsUtf8 replacement_bytes
replacement_valid = subst IsUtf8 (sym replacement_is) (IsUtf8-encode 65533 refl)

lossy_within : (k : ℕ) (bs : List ℕ) → length bs ≤ k → IsUtf8 (utf8_lossy bs)
lossy_within zero bs h = elim (cases_eq (utf8_valid_len bs) (length bs)) [
  | inl whole ↦ lossy_whole bs whole
  | inr faulty ↦ absurd (omega (arith, h, length-after_first_chunk bs faulty))
]
lossy_within (suc k) bs h = elim (cases_eq (utf8_valid_len bs) (length bs)) [
  | inl whole ↦ lossy_whole bs whole
  | inr faulty ↦
      let later = lossy_within k (after_first_chunk bs) (omega (arith, h, length-after_first_chunk bs faulty)) in
      subst IsUtf8 (sym (utf8_lossy_step bs faulty)) (IsUtf8-append (take (utf8_valid_len bs) bs) _ (valid_front bs) (IsUtf8-append replacement_bytes _ replacement_valid later))
]

lossy_valid : (bs : List ℕ) → IsUtf8 (utf8_lossy bs)
lossy_valid bs = lossy_within (length bs) bs (omega arith)

-- ---- whole texts

pub escape_parts : (bytes : List ℕ) → IsEscaped (escape bytes)
unfolding escape
escape_parts bytes = escaped_parts (chars (utf8_lossy bytes)) (scalars-chars (utf8_lossy bytes) (lossy_valid bytes))

entity_valid : (part : List ℕ) → IsEntity part → IsUtf8 part
unfolding encode_utf8
entity_valid part (inl e) = subst IsUtf8 (sym e) (codes "&amp;", (refl, refl))
entity_valid part (inr (inl e)) = subst IsUtf8 (sym e) (codes "&lt;", (refl, refl))
entity_valid part (inr (inr (inl e))) = subst IsUtf8 (sym e) (codes "&gt;", (refl, refl))
entity_valid part (inr (inr (inr (inl e)))) = subst IsUtf8 (sym e) (codes "&quot;", (refl, refl))
entity_valid part (inr (inr (inr (inr e)))) = subst IsUtf8 (sym e) (codes "&apos;", (refl, refl))

part_valid : (part : List ℕ) → IsEntity part ⊎ IsPlainCharacter part → IsUtf8 part
part_valid part (inl h) = entity_valid part h
part_valid part (inr h) = subst IsUtf8 (sym h.is) (IsUtf8-encode h.code h.is_scalar)

parts_valid : (parts : List (List ℕ)) → AllByRecursion (λ part. IsEntity part ⊎ IsPlainCharacter part) parts → IsUtf8 (concat parts)
parts_valid [] h = IsUtf8-nil
parts_valid (p ∷ ps) h = IsUtf8-append p (concat ps) (part_valid p h.0) (parts_valid ps h.1)

pub escape_valid : (bytes : List ℕ) → IsUtf8 (escape bytes)
escape_valid bytes = let h = escape_parts bytes in subst IsUtf8 (sym h.is) (parts_valid h.parts h.are)
