-- What the tokens say, taken from their texts, is what the bytes say.
use Rattle.std.proofs.Common.{◌≡◌, ◌≢◌, ℕ, ◌+◌, ◌-◌, ◌<◌, List, [], ◌∷◌, ◌++◌, length, take, drop, refl, sym, ap, ◌∙◌, subst, ⊎_elim, arith, append_assoc, length-append}
use Rattle.std.specs.Prelude.{flat_map, map}
use Rattle.std.proofs.Math.Seq.{drop-append_seam, take-append_seam}
use Rattle.ded_model.specs.Quoting.{doubled}
use Rattle.ded_lex.specs.declared.token.Token.{Token}
use Rattle.ded_lex.specs.Gaps.{gap_bytes}
use Rattle.ded_lex.specs.Lexemes.{Lexeme, Word, Number, Decimal, Quoted, Sign, lexeme_bytes}
use Rattle.ded_lex.specs.Tokens.{Cell, GapCell, LexemeCell, cell_bytes, tokens_from, lexemes_of, AreTokens, AreLexemes, undoubled, kind_of, lexeme_of, lexeme}
use Rattle.ded_lex.proofs.Cases.{same_or, is_not}

undoubled_byte : (b : ℕ) (us : List ℕ) → b ≢ 39 → 0 < length us → undoubled (b ∷ us) ≡ b ∷ undoubled us
undoubled_byte b [] ne some = absurd (omega (arith, some))
undoubled_byte b (u ∷ us) ne some = rw (is_not b 39 ne) refl

-- the value of doubled quotes
value_back : (value : List ℕ) → undoubled (doubled value ++ 39 ∷ []) ≡ value
value_back [] = refl
value_back (b ∷ value) = ⊎_elim
    (λ (e : b ≡ 39). subst (λ (x : ℕ). undoubled (doubled (x ∷ value) ++ 39 ∷ []) ≡ x ∷ value) (sym e) (ap (λ (l : List ℕ). 39 ∷ l) (value_back value)))
    (λ (ne : b ≢ 39).
    let one : doubled (b ∷ value) ≡ b ∷ doubled value = rw (is_not b 39 ne) refl in
    ap (λ (l : List ℕ). undoubled (l ++ 39 ∷ [])) one
    ∙ undoubled_byte b (doubled value ++ 39 ∷ []) ne (omega (arith, length-append (doubled value) (39 ∷ [])))
    ∙ ap (λ (l : List ℕ). b ∷ l) (value_back value))
    (same_or b 39)

said : (l : Lexeme) → lexeme_of (kind_of l) (lexeme_bytes l) ≡ l
said (Word bs) = refl
said (Number digits) = refl
said (Decimal bs) = refl
said (Quoted value) = ap Quoted (value_back value)
said (Sign bs) = refl

-- a part in the middle
middle : (front part rest : List ℕ) (at n : ℕ) → at ≡ length front → n ≡ length part → take (at + n - at) (drop at (front ++ (part ++ rest))) ≡ part
middle front part rest at n is count =
    let size : at + n - at ≡ length part = omega (arith, count) in
    ap (λ (k : ℕ). take k (drop at (front ++ (part ++ rest)))) size
    ∙ ap (λ (k : ℕ). take (length part) (drop k (front ++ (part ++ rest)))) is
    ∙ ap (λ (l : List ℕ). take (length part) l) (drop-append_seam front (part ++ rest))
    ∙ take-append_seam part rest

says : (cells : List Cell) (front bytes : List ℕ) (at : ℕ) → at ≡ length front → bytes ≡ front ++ flat_map cell_bytes cells → lexemes_of cells ≡ map (lexeme bytes) (tokens_from at cells)
says [] front bytes at is all = refl
says (GapCell gap ∷ cells) front bytes at is all =
    says cells (front ++ gap_bytes gap) bytes (at + length (gap_bytes gap)) (omega (arith, is, length-append front (gap_bytes gap))) (all ∙ sym (append_assoc front (gap_bytes gap) (flat_map cell_bytes cells)))
says (LexemeCell l ∷ cells) front bytes at is all =
    let n : ℕ = length (lexeme_bytes l) in
    let text : take (at + n - at) (drop at bytes) ≡ lexeme_bytes l = ap (λ (bs : List ℕ). take (at + n - at) (drop at bs)) all ∙ middle front (lexeme_bytes l) (flat_map cell_bytes cells) at n is refl in
    let first : l ≡ lexeme_of (kind_of l) (take (at + n - at) (drop at bytes)) = sym (ap (lexeme_of (kind_of l)) text ∙ said l) in
    let more : lexemes_of cells ≡ map (lexeme bytes) (tokens_from (at + n) cells) = says cells (front ++ lexeme_bytes l) bytes (at + n) (omega (arith, is, length-append front (lexeme_bytes l))) (all ∙ sym (append_assoc front (lexeme_bytes l) (flat_map cell_bytes cells))) in
    ap (λ (x : Lexeme). x ∷ lexemes_of cells) first ∙ ap (λ (xs : List Lexeme). lexeme_of (kind_of l) (take (at + n - at) (drop at bytes)) ∷ xs) more

pub tokens_say : (bytes : List ℕ) (tokens : List Token) → AreTokens bytes tokens → AreLexemes bytes (map (lexeme bytes) tokens)
tokens_say bytes tokens t = record {
  cells = t.cells;
  is = t.is;
  each = t.each;
  lexemes_are = says t.cells [] bytes 0 refl (sym t.is) ∙ ap (map (lexeme bytes)) t.tokens_are;
}

pub said_by_tokens : (bytes : List ℕ) (lexemes : List Lexeme) → AreLexemes bytes lexemes → (tokens : List Token) × AreTokens bytes tokens × (lexemes ≡ map (lexeme bytes) tokens)
said_by_tokens bytes lexemes s = (
  tokens_from 0 s.cells,
  record { cells = s.cells; is = s.is; each = s.each; tokens_are = refl },
  sym s.lexemes_are ∙ says s.cells [] bytes 0 refl (sym s.is),
)
