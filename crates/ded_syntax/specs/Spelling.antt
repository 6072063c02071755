-- Which bytes spell a command, and what is refused of bytes alone.
use Rattle.std.specs.Prelude.{◌≡◌, ◌⊎◌, ◌^◌, ◌<◌, ℕ, nat_lt, nat_le, ◌||◌, Bool, true, false, List, length, map}
use Rattle.std.specs.List.{list_any}
use Rattle.ded_lex.specs.Lexemes.{Lexeme, Word, Number, Decimal, Quoted, Sign}
use Rattle.ded_lex.specs.Tokens.{AreLexemes}
use Rattle.ded_model.specs.declared.command.Language.{Language}
use Rattle.ded_model.specs.declared.command.Language.TheVariants.{Opening, Two}
use Rattle.ded_model.specs.declared.command.Refusal.{Refusal}
use Rattle.ded_model.specs.declared.command.Refusal.TheVariants.{Syntax, LongName, LongNumber, Deep}
use Rattle.ded_model.specs.Command.{CommandForm, header}
use Rattle.ded_model.specs.Refusals.{refusal_number}
use Rattle.ded_terminals.specs.Symbols.{symbol, number_of, decimal_number, decimal_power}
use Rattle.ded_terminals.specs.Literals.{exact, marked}
use Rattle.ded_syntax.specs.Marks.{has_mark}
use Rattle.ded_syntax.specs.Commands.{SpellsCommand}
use Rattle.ded_model.specs.LongRows.{has_long_row}

-- ---- what is spelled

-- The bytes spell the command in the language, with this nesting.
pub record Spells (language : Language) (bytes : List ℕ) (c : CommandForm) (depth : ℕ) : Type 0 where
  pub lexemes : List Lexeme
  pub are : AreLexemes bytes lexemes
  pub command : SpellsCommand exact (map (symbol language) lexemes) c depth

-- the bytes spell the header, which no other language has
abbrev pub IsHeader : List ℕ → Type 0
IsHeader bytes = Spells Opening bytes header 0

-- ---- what is refused

-- a word of more than 64 bytes; no reserved word is that long
abbrev pub is_long_word : Lexeme → Bool
is_long_word (Word w) = nat_lt 64 (length w)
is_long_word (Number ds) = false
is_long_word (Decimal bs) = false
is_long_word (Quoted t) = false
is_long_word (Sign s) = false

-- a decimal whose digits without the point or power of ten is above 2^63 - 1; another language has no decimals
abbrev pub is_long_decimal : Language → List ℕ → Bool
is_long_decimal Two bs = nat_le (2 ^ 63) (decimal_number bs) || nat_le (2 ^ 63) (decimal_power bs)
is_long_decimal _ bs = false

-- a number above 2^63 - 1, or such a decimal
abbrev pub is_long_number : Language → Lexeme → Bool
is_long_number language (Word w) = false
is_long_number language (Number ds) = nat_le (2 ^ 63) (number_of ds)
is_long_number language (Decimal bs) = is_long_decimal language bs
is_long_number language (Quoted t) = false
is_long_number language (Sign s) = false

-- some lexeme of the bytes passes the test
pub record SomeLexeme (test : Lexeme → Bool) (bytes : List ℕ) : Type 0 where
  pub lexemes : List Lexeme
  pub are : AreLexemes bytes lexemes
  pub passes : list_any test lexemes ≡ true

-- a command is spelled in which a comparison or an argument has a long row
pub record SpellsLongRow (language : Language) (bytes : List ℕ) : Type 0 where
  pub command : CommandForm
  pub depth : ℕ
  pub spells : Spells language bytes command depth
  pub long : has_long_row command ≡ true

-- a command is spelled in which the literals of a comparison or an argument are long over their common denominator
pub record SpellsLongLiteral (language : Language) (bytes : List ℕ) : Type 0 where
  pub lexemes : List Lexeme
  pub are : AreLexemes bytes lexemes
  pub command : CommandForm
  pub depth : ℕ
  pub spells : SpellsCommand marked (map (symbol language) lexemes) command depth
  pub long : has_mark command ≡ true

-- a command is spelled whose nesting is above 64
pub record IsDeep (language : Language) (bytes : List ℕ) : Type 0 where
  pub command : CommandForm
  pub depth : ℕ
  pub spells : Spells language bytes command depth
  pub above : 64 < depth

-- the causes of the refusals that bytes alone decide; each is read only where no lesser one applies
abbrev pub AppliesIn : Refusal → Language → List ℕ → Type 0
AppliesIn Syntax language bytes = (c : CommandForm) (depth : ℕ) → Spells language bytes c depth → ⊥
AppliesIn LongName language bytes = SomeLexeme is_long_word bytes
AppliesIn LongNumber language bytes = SomeLexeme (is_long_number language) bytes ⊎ SpellsLongLiteral language bytes ⊎ SpellsLongRow language bytes
AppliesIn Deep language bytes = IsDeep language bytes
AppliesIn _ language bytes = ⊥

-- the refusal applies, and none of a lesser number does
pub record IsLeastIn (r : Refusal) (language : Language) (bytes : List ℕ) : Type 0 where
  pub applies : AppliesIn r language bytes
  pub least : (q : Refusal) → refusal_number q < refusal_number r → AppliesIn q language bytes → ⊥

-- the bytes spell the command, and no refusal applies to them
pub record IsRead (language : Language) (bytes : List ℕ) (c : CommandForm) : Type 0 where
  pub depth : ℕ
  pub spells : Spells language bytes c depth
  pub accepted : (q : Refusal) → AppliesIn q language bytes → ⊥
