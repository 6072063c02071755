-- Headings over which answers can be read back.
use Rattle.std.specs.Prelude.{◌≡◌, ◌≤◌, ◌^◌, ℕ, false, List, length}
use Rattle.std.specs.List.{AllByRecursion}
use Rattle.ded_lex.specs.Lexemes.{letter_byte, word_byte, BeginsWith, Each}
use Rattle.ded_model.specs.declared.name.Column.{Column}
use Rattle.ded_model.specs.Known.{has_twice}

-- a letter or `_`, then letters, digits and `_`
abbrev pub IsWord : List ℕ → Type 0
IsWord bs = BeginsWith letter_byte bs × Each word_byte bs

-- distinct names, each of them a word, and no more columns than slots have numbers
pub record IsPlainHeading (h : List Column) : Type 0 where
  pub once : has_twice h ≡ false
  pub words : AllByRecursion (λ c. IsWord c.name) h
  pub few : length h ≤ 2 ^ 32
