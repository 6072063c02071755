-- The words and texts that a script of version 2 may have.
use Rattle.std.specs.Prelude.{◌≡◌, ◌≤◌, ℕ, List, length}
use Rattle.ded_lex.specs.Lexemes.{BeginsWith, Each, letter_byte, word_byte, text_byte}
use Rattle.ded_model.specs.declared.command.Language.TheVariants.{Two}
use Rattle.ded_model.specs.declared.name.Column.{Column}
use Rattle.ded_terminals.specs.Atoms.{Named, name_of}
use Rattle.ded_terminals.specs.MemberNames.{word_of}
use Rattle.ded_terminals.specs.Symbols.{word_symbol, Name}
use Rattle.ded_reread.specs.Words.{AreNamed}

-- a word of at most 64 bytes that isn't reserved
pub record IsName (n : List ℕ) : Type 0 where
  pub begins : BeginsWith letter_byte n
  pub each : Each word_byte n
  pub short : length n ≤ 64
  pub free : word_symbol Two n ≡ Name n

-- the name of a relation or view, or that of its closure or its interior
pub record IsMember (n : List ℕ) : Type 0 where
  pub named : Named
  pub is : n ≡ name_of named
  pub word : IsName (word_of named)

-- what may stand between quotes
abbrev pub IsText : List ℕ → Type 0
IsText t = Each text_byte t

-- a column or more, each with such a name
pub record IsHeading (h : List Column) : Type 0 where
  pub some : 1 ≤ length h
  pub named : AreNamed IsName h
