-- The tag with which tokens begin, and the tokens behind it.
use Rattle.std.proofs.Common.{◌≡◌, ℕ, ◌+◌, ◌≤◌, ◌<◌, true, false, List, [], ◌∷◌, ◌++◌, length, drop, nat_lt, slice_index_or, refl, sym, ap, ◌∙◌, subst, arith, append_assoc}
use Rattle.std.specs.Prelude.{codes, flat_map, map}
use Rattle.std.proofs.lemmas.Bool.Decides.{nat_tests}
use Rattle.std.proofs.lemmas.List.{length-append, length-drop}
use Rattle.std.proofs.Math.Seq.{drop-append_seam}
use Rattle.ded_lex.specs.declared.token.Token.{Token}
use Rattle.ded_lex.specs.Gaps.{gap_bytes}
use Rattle.ded_lex.specs.Lexemes.{Lexeme, Sign, lexeme_bytes}
use Rattle.ded_lex.specs.Tokens.{Cell, GapCell, LexemeCell, cell_bytes, AreCells, tokens_from, lexemes_of, AreTokens, AreLexemes, AreInOrder, lexeme}
use Rattle.ded_lex.proofs.Said.{tokens_say}
use Rattle.ded_lex.proofs.Spans.{in_order}
use Rattle.ded_terminals.proofs.Seen.{few_tokens, one_list}
use Rattle.ded_shared.specs.Tags.{HasTag, IsSessionOf}
use Rattle.ded_shared.specs.TagTokens.{AreTokensIn, AreTokensOf}

-- ---- what stands behind tokens

first_is : {A : Type 0} {x y : A} {xs ys : List A} → x ∷ xs ≡ y ∷ ys → x ≡ y
first_is e = cc

rest_is : {A : Type 0} {x y : A} {xs ys : List A} → x ∷ xs ≡ y ∷ ys → xs ≡ ys
rest_is e = cc

-- cells that begin at this place, the first of whose tokens this one is, and what stands behind it
record Behind (at : ℕ) (cells : List Cell) (token : Token) (tokens : List Token) : Type 0 where
  pub front : List ℕ
  pub left : List Cell
  pub is : flat_map cell_bytes cells ≡ front ++ flat_map cell_bytes left
  pub end : at + length front ≡ token.end
  pub each : AreCells left
  pub first : Lexeme
  pub lexemes : lexemes_of cells ≡ first ∷ lexemes_of left
  pub tokens_are : tokens_from token.end left ≡ tokens

behind : (at : ℕ) (cells : List Cell) (token : Token) (tokens : List Token) → AreCells cells → tokens_from at cells ≡ token ∷ tokens → Behind at cells token tokens
behind at [] token tokens each e = absurd cc
behind at (GapCell gap ∷ cells) token tokens each e =
    let b = behind (at + length (gap_bytes gap)) cells token tokens each.1 e in
    record {
      front = gap_bytes gap ++ b.front;
      left = b.left;
      is = ap (λ (l : List ℕ). gap_bytes gap ++ l) b.is ∙ sym (append_assoc (gap_bytes gap) b.front (flat_map cell_bytes b.left));
      end = omega (arith, b.end, length-append (gap_bytes gap) b.front);
      each = b.each;
      first = b.first;
      lexemes = b.lexemes;
      tokens_are = b.tokens_are;
    }
behind at (LexemeCell l ∷ cells) token tokens each e =
    let end : at + length (lexeme_bytes l) ≡ token.end = ap (λ (t : Token). t.end) (first_is e) in
    record {
      front = lexeme_bytes l;
      left = cells;
      is = refl;
      end = end;
      each = each.1;
      first = l;
      lexemes = refl;
      tokens_are = subst (λ (n : ℕ). tokens_from n cells ≡ tokens) end (rest_is e);
    }

-- tokens in order stand among the bytes
ordered_inside : (bytes : List ℕ) (at : ℕ) (tokens : List Token) → AreInOrder at (length bytes) tokens → AreTokensIn bytes tokens
ordered_inside bytes at [] h = tt
ordered_inside bytes at (t ∷ ts) h = ((omega (arith, h.1), h.2), ordered_inside bytes t.end ts h.3)

module _ (bytes : List ℕ) (number colon : Token) (more : List Token) (are : AreTokens bytes (number ∷ colon ∷ more)) where
  told_behind : AreLexemes (drop colon.end bytes) (map (lexeme bytes) more)
  told_behind =
      let one = behind 0 are.cells number (colon ∷ more) are.each are.tokens_are in
      let two = behind number.end one.left colon more one.each one.tokens_are in
      let is : bytes ≡ (one.front ++ two.front) ++ flat_map cell_bytes two.left =
      sym are.is ∙ one.is ∙ ap (λ (l : List ℕ). one.front ++ l) two.is ∙ sym (append_assoc one.front two.front (flat_map cell_bytes two.left)) in
      let count : colon.end ≡ length (one.front ++ two.front) = omega (arith, one.end, two.end, length-append one.front two.front) in
      let said : lexemes_of are.cells ≡ map (lexeme bytes) (number ∷ colon ∷ more) =
      one_list bytes _ _ (record { cells = are.cells; is = are.is; each = are.each; lexemes_are = refl }) (tokens_say bytes (number ∷ colon ∷ more) are) in
      let both : one.first ∷ two.first ∷ lexemes_of two.left ≡ map (lexeme bytes) (number ∷ colon ∷ more) =
      sym (one.lexemes ∙ ap (λ (l : List Lexeme). one.first ∷ l) two.lexemes) ∙ said in
      record {
        cells = two.left;
        is = sym (ap (drop colon.end) is ∙ ap (λ (n : ℕ). drop n ((one.front ++ two.front) ++ flat_map cell_bytes two.left)) count ∙ drop-append_seam (one.front ++ two.front) (flat_map cell_bytes two.left));
        each = two.each;
        lexemes_are = rest_is (rest_is both);
      }

  inside_behind : AreTokensIn bytes more
  inside_behind = ordered_inside bytes colon.end more (in_order bytes (number ∷ colon ∷ more) are).3.3

  -- the tokens behind the first two say what the bytes behind these say
  pub tokens_behind : length bytes ≤ 65536 → AreTokensOf (drop colon.end bytes) bytes more
  tokens_behind short = record {
    inside = inside_behind;
    say = told_behind;
    few = omega (arith, few_tokens bytes (number ∷ colon ∷ more) (number ∷ colon ∷ more) short are refl);
  }

-- ---- the first two tokens

pub none_at_0 : (n : ℕ) → false ≡ nat_lt 0 n → n < 2
none_at_0 n e = grind (arith, nat_tests)

pub none_at_1 : (n : ℕ) → false ≡ nat_lt 1 n → n < 2
none_at_1 n e = grind (arith, nat_tests)

more_than_1 : (n : ℕ) → true ≡ nat_lt 1 n → 1 < n
more_than_1 n e = grind (arith, nat_tests)

pub two_there : (list : List Token) → true ≡ nat_lt 1 (length list) → 2 ≤ length list
two_there list e = omega (arith, more_than_1 (length list) e)

two_long : (list : List Token) (n c d e : Token) → n ≡ slice_index_or list 0 d → c ≡ slice_index_or list 1 e → 1 < length list → list ≡ n ∷ c ∷ drop 2 list
two_long [] n c d e p q lt = absurd (omega (arith, lt))
two_long (x ∷ []) n c d e p q lt = absurd (omega (arith, lt))
two_long (x ∷ y ∷ zs) n c d e p q lt = ap (λ (a : Token). a ∷ y ∷ zs) (sym p) ∙ ap (λ (a : Token). n ∷ a ∷ zs) (sym q)

-- the first two of tokens, and those behind them
pub two_first : (bytes : List ℕ) (list : List Token) (n c d e : Token) → AreTokens bytes list → n ≡ slice_index_or list 0 d → c ≡ slice_index_or list 1 e → true ≡ nat_lt 1 (length list) → AreTokens bytes (n ∷ c ∷ drop 2 list)
two_first bytes list n c d e are p q lt = subst (AreTokens bytes) (two_long list n c d e p q (more_than_1 (length list) lt)) are

module _ (bytes : List ℕ) (first second : Token) (others : List Token) (are : AreTokens bytes (first ∷ second ∷ others)) where
  pub first_order : first.start ≤ first.end
  first_order = omega (arith, (in_order bytes (first ∷ second ∷ others) are).1)

  pub first_within : first.end ≤ length bytes
  first_within = (in_order bytes (first ∷ second ∷ others) are).2

  pub second_order : second.start ≤ second.end
  second_order = omega (arith, (in_order bytes (first ∷ second ∷ others) are).3.1)

  pub second_within : second.end ≤ length bytes
  second_within = (in_order bytes (first ∷ second ∷ others) are).3.2

  pub tag_read : (k : ℕ) (rest : List ℕ) (left : List Token) → length bytes ≤ 65536 → IsSessionOf k (lexeme bytes first) → lexeme bytes second ≡ Sign (codes ":") → rest ≡ drop second.end bytes → left ≡ others
      → HasTag bytes k rest × (length rest ≤ 65536) × AreTokensOf rest bytes left
  tag_read k rest left short s c e same = (
    record { number = first; colon = second; more = others; are = are; is_number = s; is_colon = c; behind = e },
    omega (arith, short, ap length e, length-drop second.end bytes),
    subst (λ (l : List Token). AreTokensOf rest bytes l) (sym same) (subst (λ (r : List ℕ). AreTokensOf r bytes others) (sym e) (tokens_behind bytes first second others are short)),
  )
