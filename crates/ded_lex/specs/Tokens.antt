-- The tokens of bytes, with the places where they stand.
use Rattle.std.specs.Prelude.{◌≡◌, ◌+◌, ◌-◌, ◌<◌, ◌≤◌, ℕ, List, [], ◌∷◌, length, take, drop, flat_map, if◌then◌else◌, ◌==◌}
use Rattle.ded_lex.specs.declared.token.Token.{Token}
use Rattle.ded_lex.specs.declared.token.TokenKind.{TokenKind}
use Rattle.ded_lex.specs.declared.token.TokenKind.TheVariants as kind
use Rattle.ded_lex.specs.Gaps.{Gap, gap_bytes, IsGap}
use Rattle.ded_lex.specs.Lexemes.{Lexeme, Word, Number, Decimal, Quoted, Sign, lexeme_bytes, IsLexeme}

-- What bytes are made of.
pub data Cell : Type 0 where
  GapCell : Gap → Cell
  LexemeCell : Lexeme → Cell

-- the bytes of a cell
abbrev pub cell_bytes : Cell → List ℕ
cell_bytes (GapCell gap) = gap_bytes gap
cell_bytes (LexemeCell lexeme) = lexeme_bytes lexeme

-- The cell may stand where these bytes come next.
abbrev pub IsCell : Cell → List ℕ → Type 0
IsCell (GapCell gap) next = IsGap gap next
IsCell (LexemeCell lexeme) next = IsLexeme lexeme next

-- cells one after another, and nothing comes next
abbrev pub AreCells : List Cell → Type 0
AreCells [] = Unit {0}
AreCells (cell ∷ cells) = IsCell cell (flat_map cell_bytes cells) × AreCells cells

-- the kind of the token of a lexeme
abbrev pub kind_of : Lexeme → TokenKind
kind_of (Word bs) = kind.Word
kind_of (Number digits) = kind.Number
kind_of (Decimal bs) = kind.Decimal
kind_of (Quoted value) = kind.Quoted
kind_of (Sign bs) = kind.Sign

-- the tokens of cells that begin at this place
abbrev pub tokens_from : ℕ → List Cell → List Token
tokens_from at [] = []
tokens_from at (GapCell gap ∷ cells) = tokens_from (at + length (gap_bytes gap)) cells
tokens_from at (LexemeCell lexeme ∷ cells) =
    record { kind = kind_of lexeme; start = at; end = at + length (lexeme_bytes lexeme) } ∷ tokens_from (at + length (lexeme_bytes lexeme)) cells

-- the lexemes among cells, in order
abbrev pub lexemes_of : List Cell → List Lexeme
lexemes_of [] = []
lexemes_of (GapCell gap ∷ cells) = lexemes_of cells
lexemes_of (LexemeCell lexeme ∷ cells) = lexeme ∷ lexemes_of cells

-- The bytes are made of these tokens, in order, with blanks and comments between them.
pub record AreTokens (bytes : List ℕ) (tokens : List Token) : Type 0 where
  pub cells : List Cell
  pub is : flat_map cell_bytes cells ≡ bytes
  pub each : AreCells cells
  pub tokens_are : tokens_from 0 cells ≡ tokens

-- The same, with what each token says in place of where it stands.
pub record AreLexemes (bytes : List ℕ) (lexemes : List Lexeme) : Type 0 where
  pub cells : List Cell
  pub is : flat_map cell_bytes cells ≡ bytes
  pub each : AreCells cells
  pub lexemes_are : lexemes_of cells ≡ lexemes

-- the bytes of a token
abbrev pub token_text : List ℕ → Token → List ℕ
token_text bytes token = take (token.end - token.start) (drop token.start bytes)

-- the value of what stands behind the first quote: each doubled quote once, and without the last quote
abbrev pub undoubled : List ℕ → List ℕ
undoubled [] = []
undoubled (b ∷ []) = []
undoubled (b ∷ c ∷ bs) = b ∷ (if b == 39 then undoubled bs else undoubled (c ∷ bs))

-- the value of a quoted text
abbrev pub quoted_value : List ℕ → List ℕ
quoted_value [] = []
quoted_value (b ∷ bs) = undoubled bs

-- what a token of this kind and text says
abbrev pub lexeme_of : TokenKind → List ℕ → Lexeme
lexeme_of kind.Word text = Word text
lexeme_of kind.Number text = Number text
lexeme_of kind.Decimal text = Decimal text
lexeme_of kind.Quoted text = Quoted (quoted_value text)
lexeme_of kind.Sign text = Sign text

-- what a token of these bytes says
abbrev pub lexeme : List ℕ → Token → Lexeme
lexeme bytes token = lexeme_of token.kind (token_text bytes token)

-- each token has a byte at least, begins at this place or behind it and where the one before it ends or behind that, and the last ends at the limit or before it
abbrev pub AreInOrder : ℕ → ℕ → List Token → Type 0
AreInOrder at limit [] = Unit {0}
AreInOrder at limit (token ∷ tokens) = (at ≤ token.start) × (token.start < token.end) × (token.end ≤ limit) × AreInOrder token.end limit tokens
