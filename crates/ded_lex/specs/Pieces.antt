-- How an input is cut into statements.
use Rattle.std.specs.Prelude.{◌≡◌, ◌≢◌, ◌≤◌, ◌⊎◌, ℕ, List, [], ◌∷◌, ◌++◌, length, flat_map, map}
use Rattle.std.specs.List.{AllByRecursion}
use Rattle.ded_lex.specs.declared.piece.Piece.{Piece}
use Rattle.ded_lex.specs.declared.piece.Piece.TheVariants as piece
use Rattle.ded_lex.specs.Gaps.{IsLine, IsBlank}

-- A part of a piece. The bytes below are ' (39), - (45), ; (59) and the line feed (10).
pub data Part : Type 0 where
  Plain : ℕ → Part
  Dash : Part
  Quoted : List ℕ → Part
  Comment : List ℕ → Part

-- the bytes of a part, with the quotes around a quoted one, and with the dashes and the line feed of a comment
abbrev pub part_bytes : Part → List ℕ
part_bytes (Plain b) = b ∷ []
part_bytes Dash = 45 ∷ []
part_bytes (Quoted body) = 39 ∷ body ++ 39 ∷ []
part_bytes (Comment body) = 45 ∷ 45 ∷ body ++ 10 ∷ []

-- the bytes of parts, one part after another
abbrev pub spelled : List Part → List ℕ
spelled parts = flat_map part_bytes parts

-- the bytes don't begin with a dash
abbrev pub NoDash : List ℕ → Type 0
NoDash [] = Unit {0}
NoDash (b ∷ bs) = b ≢ 45

-- The part may stand where these bytes of the input come next.
abbrev pub IsPart : Part → List ℕ → Type 0
IsPart (Plain b) next = (b ≢ 39) × (b ≢ 45) × (b ≢ 59)
IsPart Dash next = NoDash next
IsPart (Quoted body) next = AllByRecursion (λ b. b ≢ 39) body
IsPart (Comment body) next = IsLine body

-- The parts may stand one after another, where these bytes of the input come next.
abbrev pub AreParts : List Part → List ℕ → Type 0
AreParts [] next = Unit {0}
AreParts (part ∷ parts) next = IsPart part (spelled parts ++ next) × AreParts parts next

-- The piece is a sequence of parts, where these bytes of the input come next.
pub record IsWhole (piece next : List ℕ) : Type 0 where
  pub parts : List Part
  pub is : spelled parts ≡ piece
  pub each : AreParts parts next

-- The input begins with a whole piece and the ; that ends it.
pub record Begins (input piece after : List ℕ) : Type 0 where
  pub is : input ≡ piece ++ 59 ∷ after
  pub whole : IsWhole piece (59 ∷ after)

-- no whole piece and its ; stand at the input's start
abbrev pub HasNoWhole : List ℕ → Type 0
HasNoWhole input = (piece after : List ℕ) → Begins input piece after → ⊥

-- The whole pieces of the input, one after another from its start, each followed by ; , and the rest behind the last of these.
abbrev pub IsCut : List ℕ → List (List ℕ) → List ℕ → Type 0
IsCut input [] rest = HasNoWhole input × (rest ≡ input)
IsCut input (piece ∷ pieces) rest = (after : List ℕ) × Begins input piece after × IsCut after pieces rest

-- The byte is the ; that ends these bytes as a whole piece, whatever comes behind it.
pub record EndsPiece (bytes : List ℕ) (byte : ℕ) : Type 0 where
  pub semicolon : byte ≡ 59
  pub whole : (after : List ℕ) → IsWhole bytes (59 ∷ after)
  pub cut : IsCut (bytes ++ byte ∷ []) (bytes ∷ []) []

-- a whole piece, or a rest that no ; ends
pub data Statement : Type 0 where
  Whole : List ℕ → Statement
  Unfinished : List ℕ → Statement

-- the bytes of a statement, without the ; that ends a whole one
abbrev pub statement_bytes : Statement → List ℕ
statement_bytes (Whole piece) = piece
statement_bytes (Unfinished rest) = rest

-- the pieces as statements, then the rest where it isn't blank
abbrev pub EndsIn : List ℕ → List Statement → List Statement → Type 0
EndsIn rest wholes statements =
    (IsBlank rest × (statements ≡ wholes)) ⊎ ((IsBlank rest → ⊥) × (statements ≡ wholes ++ Unfinished rest ∷ []))

-- The statements of an input: its whole pieces in order, then its rest where that isn't blank.
pub record AreStatements (input : List ℕ) (statements : List Statement) : Type 0 where
  pub pieces : List (List ℕ)
  pub rest : List ℕ
  pub cut : IsCut input pieces rest
  pub are : EndsIn rest (map Whole pieces) statements

-- a whole piece that is handed on has at most 65,536 bytes
abbrev pub IsShortPiece : Piece → Type 0
IsShortPiece (piece.Whole bytes) = length bytes.now ≤ 65536
IsShortPiece piece.Long = Unit {0}
IsShortPiece piece.Cut = Unit {0}
