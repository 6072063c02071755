-- The tokens of bytes stand in order within them.
use Rattle.std.proofs.Common.{ℕ, ◌+◌, ◌<◌, ◌≤◌, List, [], ◌∷◌, ◌++◌, length, ap, subst, arith, length-append}
use Rattle.std.specs.Prelude.{flat_map, All}
use Rattle.std.specs.List.{AllByRecursion}
use Rattle.std.proofs.lemmas.List.Elements.{All-from_recursion}
use Rattle.ded_lex.specs.declared.token.Token.{Token}
use Rattle.ded_lex.specs.Gaps.{gap_bytes}
use Rattle.ded_lex.specs.Lexemes.{lexeme_bytes}
use Rattle.ded_lex.specs.Tokens.{Cell, GapCell, LexemeCell, cell_bytes, IsCell, AreCells, tokens_from, AreTokens, AreInOrder}
use Rattle.ded_lex.proofs.FrontReads.{front_sound, front_cell, front_found}

not_empty : (cell : Cell) (next : List ℕ) → IsCell cell next → 0 < length (cell_bytes cell)
not_empty cell next h = (front_sound (cell_bytes cell ++ next) (front_cell cell) (front_found cell next h)).1

sooner : (at place limit : ℕ) (tokens : List Token) → at ≤ place → AreInOrder place limit tokens → AreInOrder at limit tokens
sooner at place limit [] le order = tt
sooner at place limit (token ∷ tokens) le order = (omega (arith, le, order.0), order.1, order.2, order.3)

cells_in_order : (cells : List Cell) (at limit : ℕ) → AreCells cells → at + length (flat_map cell_bytes cells) ≤ limit → AreInOrder at limit (tokens_from at cells)
cells_in_order [] at limit each le = tt
cells_in_order (GapCell gap ∷ cells) at limit each le =
    sooner at (at + length (gap_bytes gap)) limit (tokens_from (at + length (gap_bytes gap)) cells) (omega arith)
    (cells_in_order cells (at + length (gap_bytes gap)) limit each.1 (omega (arith, le, length-append (gap_bytes gap) (flat_map cell_bytes cells))))
cells_in_order (LexemeCell lexeme ∷ cells) at limit each le =
    let some : 0 < length (lexeme_bytes lexeme) = not_empty (LexemeCell lexeme) (flat_map cell_bytes cells) each.0 in
    let here : at + length (lexeme_bytes lexeme) + length (flat_map cell_bytes cells) ≤ limit = omega (arith, le, length-append (lexeme_bytes lexeme) (flat_map cell_bytes cells)) in
    (omega arith, omega (arith, some), omega (arith, here), cells_in_order cells (at + length (lexeme_bytes lexeme)) limit each.1 here)

pub in_order : (bytes : List ℕ) (tokens : List Token) → AreTokens bytes tokens → AreInOrder 0 (length bytes) tokens
in_order bytes tokens t = subst (λ (l : List Token). AreInOrder 0 (length bytes) l) t.tokens_are (cells_in_order t.cells 0 (length bytes) t.each (omega (arith, ap length t.is)))

abbrev IsWithin : ℕ → Token → Type 0
IsWithin limit token = (token.start < token.end) × (token.end ≤ limit)

all_within : (at limit : ℕ) (tokens : List Token) → AreInOrder at limit tokens → AllByRecursion (IsWithin limit) tokens
all_within at limit [] order = tt
all_within at limit (token ∷ tokens) order = ((order.1, order.2), all_within token.end limit tokens order.3)

pub within : (bytes : List ℕ) (tokens : List Token) → AreTokens bytes tokens → All (λ token. (token.start < token.end) × (token.end ≤ length bytes)) tokens
within bytes tokens t = All-from_recursion (IsWithin (length bytes)) tokens (all_within 0 (length bytes) tokens (in_order bytes tokens t))
