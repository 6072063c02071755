-- What the reader sees of symbols.
use Rattle.std.specs.Prelude.{◌≡◌, ◌^◌, ◌||◌, ℕ, Bool, false, nat_le, nat_lt, List, map, length}
use Rattle.ded_lex.specs.Lexemes.{Lexeme}
use Rattle.ded_model.specs.declared.command.Language.{Language}
use Rattle.ded_lex.specs.Tokens.{AreLexemes, token_text, quoted_value}
use Rattle.ded_terminals.specs.declared.item.Rest.{Rest}
use Rattle.ded_terminals.specs.declared.item.Item.{Item}
use Rattle.ded_terminals.specs.declared.item.Item.TheVariants as item
use Rattle.ded_terminals.specs.Literals.{capped}
use Rattle.ded_terminals.specs.Symbols.{Symbol, Word, Name, Number, Decimal, Quoted, Plus, Minus, Times, Slash, Open, Close, OpenBrace, CloseBrace, Comma, Colon, Define, Relation, symbol, number_of, decimal_number, decimal_power}

-- the number of digits as it is read: 2^63 where it is above that
abbrev pub capped_of : List ℕ → ℕ
capped_of ds = capped (number_of ds)

-- the symbol of an item, whose text stands in the bytes
abbrev pub seen : List ℕ → Item → Symbol
seen bytes (item.Word w) = Word w
seen bytes (item.Name n) = Name (token_text bytes n)
seen bytes (item.Number d) = Number (token_text bytes d)
seen bytes (item.Decimal d) = Decimal (token_text bytes d)
seen bytes (item.Quoted t) = Quoted (quoted_value (token_text bytes t))
seen bytes item.Plus = Plus
seen bytes item.Minus = Minus
seen bytes item.Times = Times
seen bytes item.Slash = Slash
seen bytes item.Open = Open
seen bytes item.Close = Close
seen bytes item.OpenBrace = OpenBrace
seen bytes item.CloseBrace = CloseBrace
seen bytes item.Comma = Comma
seen bytes item.Colon = Colon
seen bytes item.Define = Define
seen bytes (item.Relation op) = Relation op

-- the symbols of items whose texts stand in the bytes, in order
abbrev pub symbols : List ℕ → List Item → List Symbol
symbols bytes items = map (seen bytes) items

-- the symbols that are left to read
abbrev pub left : Rest → List Symbol
left rest = symbols rest.bytes.now rest.items.now

-- the name is of more than 64 bytes
abbrev pub is_long_name : Symbol → Bool
is_long_name (Name n) = nat_lt 64 (length n)
is_long_name t = false

-- the number is above 2^63 - 1, or the decimal's digits without the point or its power of ten
abbrev pub is_long_literal : Symbol → Bool
is_long_literal (Number ds) = nat_le (2 ^ 63) (number_of ds)
is_long_literal (Decimal bs) = nat_le (2 ^ 63) (decimal_number bs) || nat_le (2 ^ 63) (decimal_power bs)
is_long_literal t = false

-- the symbols are those of the lexemes of the bytes in the language
pub record AreSymbols (language : Language) (bytes : List ℕ) (ts : List Symbol) : Type 0 where
  pub lexemes : List Lexeme
  pub are : AreLexemes bytes lexemes
  pub seen : ts ≡ map (symbol language) lexemes
