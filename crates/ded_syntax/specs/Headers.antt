-- Reading the header symbol by symbol.
use Rattle.std.specs.Prelude.{ℕ, ◌==◌, Bool, true, false, List, [], ◌∷◌, map, Option, Some, None, if◌then◌else◌}
use Rattle.ded_grammar.specs.Building.{◌>>=◌}
use Rattle.ded_lex.specs.declared.token.Token.{Token}
use Rattle.ded_lex.specs.Tokens.{lexeme}
use Rattle.ded_model.specs.declared.command.Language.TheVariants.{Opening}
use Rattle.ded_syntax.specs.declared.header.Progress.{Progress}
use Rattle.ded_syntax.specs.declared.header.Progress.TheVariants.{Nothing, Named, Whole}
use Rattle.ded_terminals.specs.declared.item.Keyword.TheVariants as words
use Rattle.ded_terminals.specs.Symbols.{Symbol, Word, Number, symbol, number_of}

-- the word of the header
abbrev pub is_dedale : Symbol → Bool
is_dedale (Word words.Dedale) = true
is_dedale _ = false

-- a number of value 2
abbrev pub is_two : Symbol → Bool
is_two (Number d) = number_of d == 2
is_two _ = false

-- how much of the header there is with one more symbol; none where that doesn't go on with it
abbrev pub header_step : Progress → Symbol → Option Progress
header_step Nothing t = if is_dedale t then Some Named else None
header_step Named t = if is_two t then Some Whole else None
header_step Whole t = None

-- how much there is behind all symbols
abbrev pub header_walk : Option Progress → List Symbol → Option Progress
header_walk o [] = o
header_walk o (t ∷ ts) = header_walk (o >>= λ p. header_step p t) ts

-- the symbols of tokens of the bytes, in the language that has the header
abbrev pub opening_symbols : List ℕ → List Token → List Symbol
opening_symbols bytes tokens = map (symbol Opening) (map (lexeme bytes) tokens)
