-- Names that a member may have: words of the grammar, and those of their closures and interiors.
use Rattle.std.specs.Prelude.{◌≡◌, ◌⊎◌, ℕ, List}
use Rattle.ded_lex.specs.Lexemes.{BeginsWith, Each, letter_byte, word_byte}
use Rattle.ded_model.specs.Made.{base, closure_name, interior_name}
use Rattle.ded_terminals.specs.Atoms.{Named, plain, closed, inner}

-- a letter or `_`, and then letters, digits and `_`
abbrev pub IsWordName : List ℕ → Type 0
IsWordName n = BeginsWith letter_byte n × Each word_byte n

-- the name that stands in the name of a member
abbrev pub word_of : Named → List ℕ
word_of (plain n) = n
word_of (closed n) = n
word_of (inner n) = n

-- what the name is made of is a word, and the name is that word, or the name of its closure or of its interior
pub record IsMemberName (n : List ℕ) : Type 0 where
  pub word : IsWordName (base n)
  pub is : (n ≡ base n) ⊎ (n ≡ closure_name (base n)) ⊎ (n ≡ interior_name (base n))
