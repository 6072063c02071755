-- Bytes without tokens are blank, and blank bytes have no tokens.
use Rattle.std.proofs.Common.{◌≡◌, ℕ, ◌+◌, List, [], ◌∷◌, ◌++◌, length, refl, sym, ap, ◌∙◌, subst}
use Rattle.std.specs.Prelude.{flat_map, ◌↔◌}
use Rattle.ded_lex.specs.Gaps.{Gap, gap_bytes, IsGap, AreGaps, IsBlank}
use Rattle.ded_lex.specs.Tokens.{Cell, GapCell, LexemeCell, cell_bytes, AreCells, tokens_from, AreTokens}

-- gaps of these bytes
abbrev Gaps : List ℕ → Type 0
Gaps bytes = (gaps : List Gap) × (flat_map gap_bytes gaps ≡ bytes) × AreGaps gaps

cells_are_gaps : (cells : List Cell) (at : ℕ) → AreCells cells → tokens_from at cells ≡ [] → Gaps (flat_map cell_bytes cells)
cells_are_gaps [] at each none = ([], refl, tt)
cells_are_gaps (GapCell gap ∷ cells) at each none =
    let r = cells_are_gaps cells (at + length (gap_bytes gap)) each.1 none in
    (gap ∷ r.0, ap (λ (l : List ℕ). gap_bytes gap ++ l) r.1, (subst (λ (l : List ℕ). IsGap gap l) (sym r.1) each.0, r.2))
cells_are_gaps (LexemeCell lexeme ∷ cells) at each none = absurd cc

-- cells of these bytes that bear no token
abbrev NoTokens : List ℕ → Type 0
NoTokens bytes = (cells : List Cell) × (flat_map cell_bytes cells ≡ bytes) × AreCells cells × ((at : ℕ) → tokens_from at cells ≡ [])

gaps_are_cells : (gaps : List Gap) → AreGaps gaps → NoTokens (flat_map gap_bytes gaps)
gaps_are_cells [] each = ([], refl, tt, λ at. refl)
gaps_are_cells (gap ∷ gaps) each =
    let r = gaps_are_cells gaps each.1 in
    (GapCell gap ∷ r.0, ap (λ (l : List ℕ). gap_bytes gap ++ l) r.1, (subst (λ (l : List ℕ). IsGap gap l) (sym r.1) each.0, r.2), λ at. r.3 (at + length (gap_bytes gap)))

pub blank_is_no_tokens : (bytes : List ℕ) → IsBlank bytes ↔ AreTokens bytes []
blank_is_no_tokens bytes = (
  λ w. let r = gaps_are_cells w.gaps w.each in record { cells = r.0; is = r.1 ∙ w.is; each = r.2; tokens_are = r.3 0 },
  λ t. let r = cells_are_gaps t.cells 0 t.each t.tokens_are in record { gaps = r.0; is = r.1 ∙ t.is; each = r.2 },
)
