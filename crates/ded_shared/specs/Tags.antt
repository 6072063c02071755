-- What a statement of a list of tagged statements is.
use Rattle.std.specs.Prelude.{◌≡◌, ◌⊎◌, ◌<◌, ◌≤◌, ℕ, List, [], ◌∷◌, length, drop, codes}
use Rattle.ded_lex.specs.declared.token.Token.{Token}
use Rattle.ded_lex.specs.Lexemes.{Lexeme, Word, Number, Sign}
use Rattle.ded_lex.specs.Pieces.{Statement, Whole}
use Rattle.ded_lex.specs.Pieces as pieces
use Rattle.ded_lex.specs.Tokens.{AreTokens, AreLexemes, lexeme}
use Rattle.ded_model.specs.declared.command.Language.TheVariants.{One}
use Rattle.ded_model.specs.Command.{CommandForm}
use Rattle.ded_syntax.specs.Spelling.{Spells}
use Rattle.ded_terminals.specs.Symbols.{number_of}

-- A session begins, commits or gives up a transaction; or it has a command, given by the bytes behind the colon; or the
-- statement is none of these, and stands for what is refused in its place.
pub data Tagged : Type 0 where
  begins : ℕ → Tagged
  commits : ℕ → Tagged
  aborts : ℕ → Tagged
  commands : ℕ → List ℕ → Tagged
  other : Statement → Tagged

-- the lexeme is the number of a session
pub record IsSessionOf (k : ℕ) (l : Lexeme) : Type 0 where
  pub digits : List ℕ
  pub is : l ≡ Number digits
  pub value : number_of digits ≡ k
  pub low : 1 ≤ k
  pub high : k ≤ 64

-- The bytes are tokens, and begin with the number of a session, 1 to 64, and a colon, behind which the rest stands.
pub record HasTag (bytes : List ℕ) (session : ℕ) (rest : List ℕ) : Type 0 where
  pub number : Token
  pub colon : Token
  pub more : List Token
  pub are : AreTokens bytes (number ∷ colon ∷ more)
  pub is_number : IsSessionOf session (lexeme bytes number)
  pub is_colon : lexeme bytes colon ≡ Sign (codes ":")
  pub behind : rest ≡ drop colon.end bytes

-- the bytes are this word, and nothing else but blanks and comments
abbrev pub IsWord : List ℕ → List ℕ → Type 0
IsWord word bytes = AreLexemes bytes (Word word ∷ [])

-- the bytes spell some command of the plain language
pub record SpellsCommand (bytes : List ℕ) : Type 0 where
  pub command : CommandForm
  pub depth : ℕ
  pub spells : Spells One bytes command depth

-- a tag, and behind it the word
pub record Tags (word bytes : List ℕ) (session : ℕ) : Type 0 where
  pub rest : List ℕ
  pub tag : HasTag bytes session rest
  pub is_word : IsWord word rest

-- a tag, and behind it a command
pub record TagsCommand (bytes : List ℕ) (session : ℕ) (rest : List ℕ) : Type 0 where
  pub tag : HasTag bytes session rest
  pub spells : SpellsCommand rest

-- neither of these stands behind a tag, or there is no tag
pub record HasNoTag (bytes : List ℕ) : Type 0 where
  pub begins : (k : ℕ) → Tags (codes "begin") bytes k → ⊥
  pub commits : (k : ℕ) → Tags (codes "commit") bytes k → ⊥
  pub aborts : (k : ℕ) → Tags (codes "abort") bytes k → ⊥
  pub commands : (k : ℕ) (rest : List ℕ) → TagsCommand bytes k rest → ⊥

-- What a whole piece is: one that is long stands for itself, and any other that isn't so spelled for the one without bytes.
abbrev pub IsTaggedPiece : List ℕ → Tagged → Type 0
IsTaggedPiece bytes (begins k) = (length bytes ≤ 65536) × Tags (codes "begin") bytes k
IsTaggedPiece bytes (commits k) = (length bytes ≤ 65536) × Tags (codes "commit") bytes k
IsTaggedPiece bytes (aborts k) = (length bytes ≤ 65536) × Tags (codes "abort") bytes k
IsTaggedPiece bytes (commands k rest) = (length bytes ≤ 65536) × TagsCommand bytes k rest
IsTaggedPiece bytes (other s) = ((65536 < length bytes) × (s ≡ Whole bytes)) ⊎ ((length bytes ≤ 65536) × HasNoTag bytes × (s ≡ Whole []))

-- What a statement is: one that the end of the input cuts stands for itself.
abbrev pub IsTagged : Statement → Tagged → Type 0
IsTagged (Whole bytes) x = IsTaggedPiece bytes x
IsTagged (pieces.Unfinished rest) x = x ≡ other (pieces.Unfinished rest)

-- what the statements are, one for each, in order
abbrev pub AreTagged : List Statement → List Tagged → Type 0
AreTagged [] [] = Unit {0}
AreTagged [] (x ∷ xs) = ⊥
AreTagged (s ∷ ss) [] = ⊥
AreTagged (s ∷ ss) (x ∷ xs) = IsTagged s x × AreTagged ss xs
