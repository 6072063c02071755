-- What separates tokens: blanks and comments.
use Rattle.std.specs.Prelude.{◌≡◌, ◌≢◌, ℕ, Bool, true, List, [], ◌∷◌, ◌++◌, ◌==◌, ◌||◌, flat_map}
use Rattle.std.specs.List.{AllByRecursion}

-- space, tab, line feed and carriage return
abbrev pub blank_byte : ℕ → Bool
blank_byte b = (b == 32) || ((b == 9) || ((b == 10) || (b == 13)))

-- A blank byte, a comment with the line feed (10) that ends it, or a comment that the end of the bytes cuts.
-- A comment begins with two dashes (45).
pub data Gap : Type 0 where
  Space : ℕ → Gap
  Comment : List ℕ → Gap
  OpenComment : List ℕ → Gap

-- the bytes of a gap
abbrev pub gap_bytes : Gap → List ℕ
gap_bytes (Space b) = b ∷ []
gap_bytes (Comment body) = 45 ∷ 45 ∷ body ++ 10 ∷ []
gap_bytes (OpenComment body) = 45 ∷ 45 ∷ body

-- all on one line
abbrev pub IsLine : List ℕ → Type 0
IsLine = AllByRecursion (λ b. b ≢ 10)

-- The gap may stand where these bytes come next.
abbrev pub IsGap : Gap → List ℕ → Type 0
IsGap (Space b) next = blank_byte b ≡ true
IsGap (Comment body) next = IsLine body
IsGap (OpenComment body) next = IsLine body × (next ≡ [])

-- gaps one after another, and nothing comes next
abbrev pub AreGaps : List Gap → Type 0
AreGaps [] = Unit {0}
AreGaps (gap ∷ gaps) = IsGap gap (flat_map gap_bytes gaps) × AreGaps gaps

-- The bytes are blanks and comments alone, the last comment with or without its line feed.
pub record IsBlank (bytes : List ℕ) : Type 0 where
  pub gaps : List Gap
  pub is : flat_map gap_bytes gaps ≡ bytes
  pub each : AreGaps gaps
