-- Symbols: lexemes with reserved words and signs told apart. The grammar is over symbols.
use Rattle.std.specs.Prelude.{◌+◌, ◌-◌, ◌*◌, ◌^◌, ℕ, ◌==◌, Bool, ◌||◌, List, [], ◌∷◌, ◌++◌, length, if◌then◌else◌, codes}
use Rattle.std.specs.Str.{bytes_eq}
use Rattle.ded_lex.specs.Lexemes.{Lexeme}
use Rattle.ded_lex.specs.Lexemes as lexeme
use Rattle.ded_model.specs.declared.command.Language.{Language}
use Rattle.ded_model.specs.declared.command.Language.TheVariants.{Opening, Two}
use Rattle.ded_model.specs.declared.formula.CompareOp.{CompareOp}
use Rattle.ded_model.specs.declared.formula.CompareOp.TheVariants as op
use Rattle.ded_terminals.specs.declared.item.Keyword.{Keyword}
use Rattle.ded_terminals.specs.declared.item.Keyword.TheVariants as keyword

-- a reserved word, a name, a number by its digits, a decimal by its bytes, a quoted text by its value, or a sign
pub data Symbol : Type 0 where
  Word : Keyword → Symbol
  Name : List ℕ → Symbol
  Number : List ℕ → Symbol
  Decimal : List ℕ → Symbol
  Quoted : List ℕ → Symbol
  Plus : Symbol
  Minus : Symbol
  Times : Symbol
  Slash : Symbol
  Open : Symbol
  Close : Symbol
  OpenBrace : Symbol
  CloseBrace : Symbol
  Comma : Symbol
  Colon : Symbol
  Define : Symbol
  Relation : CompareOp → Symbol

-- the words of formulas and headings; any other goes on with `other`
abbrev pub formula_word : Symbol → List ℕ → Symbol
formula_word other w =
    if bytes_eq w (codes "and") then Word keyword.And
    else (if bytes_eq w (codes "or") then Word keyword.Or
    else (if bytes_eq w (codes "not") then Word keyword.Not
    else (if bytes_eq w (codes "implies") then Word keyword.Implies
    else (if bytes_eq w (codes "exists") then Word keyword.Exists
    else (if bytes_eq w (codes "forall") then Word keyword.Forall
    else (if bytes_eq w (codes "true") then Word keyword.True
    else (if bytes_eq w (codes "false") then Word keyword.False
    else (if bytes_eq w (codes "closure") then Word keyword.Closure
    else (if bytes_eq w (codes "interior") then Word keyword.Interior
    else (if bytes_eq w (codes "text") then Word keyword.Text
    else other))))))))))

-- the words that commands begin with in every language; any other goes on with `other`
abbrev pub command_word : Symbol → List ℕ → Symbol
command_word other w =
    if bytes_eq w (codes "relation") then Word keyword.Relation
    else (if bytes_eq w (codes "insert") then Word keyword.Insert
    else (if bytes_eq w (codes "delete") then Word keyword.Delete
    else (if bytes_eq w (codes "drop") then Word keyword.Drop
    else (if bytes_eq w (codes "view") then Word keyword.View
    else (if bytes_eq w (codes "keep") then Word keyword.Keep
    else (if bytes_eq w (codes "ask") then Word keyword.Ask
    else (if bytes_eq w (codes "query") then Word keyword.Query
    else (if bytes_eq w (codes "show") then Word keyword.Show
    else (if bytes_eq w (codes "box") then Word keyword.BoxOf
    else (if bytes_eq w (codes "explain") then Word keyword.Explain
    else (if bytes_eq w (codes "disjoint") then Word keyword.Disjoint
    else (if bytes_eq w (codes "verify") then Word keyword.Verify
    else other))))))))))))

-- the word is reserved and stands in no command
abbrev pub is_unused : List ℕ → Bool
is_unused w =
    bytes_eq w (codes "begin")
    || (bytes_eq w (codes "commit")
    || bytes_eq w (codes "abort"))

-- the reserved words that stand in no command; any other goes on with `other`
abbrev pub unused_word : Symbol → List ℕ → Symbol
unused_word other w = if is_unused w then Word keyword.Unused else other

-- the word of the header, which stands in no command of another language
abbrev pub dedale_symbol : Language → Symbol
dedale_symbol Opening = Word keyword.Dedale
dedale_symbol _ = Word keyword.Unused

-- the same of the word of dumps
abbrev pub dump_symbol : Language → Symbol
dump_symbol Two = Word keyword.Dump
dump_symbol _ = Word keyword.Unused

-- the words that stand in commands of one language alone; any other goes on with `other`
abbrev pub language_word : Language → Symbol → List ℕ → Symbol
language_word language other w =
    if bytes_eq w (codes "dedale") then dedale_symbol language
    else (if bytes_eq w (codes "dump") then dump_symbol language
    else other)

-- a word that isn't reserved is a name
abbrev pub word_symbol : Language → List ℕ → Symbol
word_symbol language w = formula_word (command_word (language_word language (unused_word (Name w) w) w) w) w

-- the signs of sums and comparisons
abbrev pub sum_sign : Symbol → List ℕ → Symbol
sum_sign other s =
    if bytes_eq s (codes "+") then Plus
    else (if bytes_eq s (codes "-") then Minus
    else (if bytes_eq s (codes "*") then Times
    else (if bytes_eq s (codes "<") then Relation op.Less
    else (if bytes_eq s (codes "<=") then Relation op.LessEq
    else (if bytes_eq s (codes "=") then Relation op.Equal
    else (if bytes_eq s (codes "!=") then Relation op.NotEqual
    else (if bytes_eq s (codes ">=") then Relation op.GreaterEq
    else (if bytes_eq s (codes ">") then Relation op.Greater
    else other))))))))

-- parentheses, braces and what stands between parts; there are no other signs
abbrev pub other_sign : List ℕ → Symbol
other_sign s =
    if bytes_eq s (codes "(") then Open
    else (if bytes_eq s (codes ")") then Close
    else (if bytes_eq s (codes "{") then OpenBrace
    else (if bytes_eq s (codes "}") then CloseBrace
    else (if bytes_eq s (codes ",") then Comma
    else (if bytes_eq s (codes ":") then Colon
    else (if bytes_eq s (codes ":=") then Define
    else Word keyword.Unused))))))

-- the sign of quotients, which stands in no command of another language
abbrev pub slash_symbol : Language → Symbol
slash_symbol Two = Slash
slash_symbol _ = Word keyword.Unused

-- what the sign is in the language
abbrev pub sign_symbol : Language → List ℕ → Symbol
sign_symbol language s = sum_sign (if bytes_eq s (codes "/") then slash_symbol language else other_sign s) s

-- a decimal stands in no command of another language
abbrev pub decimal_symbol : Language → List ℕ → Symbol
decimal_symbol Two bs = Decimal bs
decimal_symbol _ bs = Word keyword.Unused

-- what the lexeme is in the language
abbrev pub symbol : Language → Lexeme → Symbol
symbol language (lexeme.Word w) = word_symbol language w
symbol language (lexeme.Number digits) = Number digits
symbol language (lexeme.Decimal bs) = decimal_symbol language bs
symbol language (lexeme.Quoted value) = Quoted value
symbol language (lexeme.Sign s) = sign_symbol language s

-- ---- numbers

-- the number that digits stand for, behind digits that stand for n
abbrev pub number_from : ℕ → List ℕ → ℕ
number_from n [] = n
number_from n (d ∷ ds) = number_from (n * 10 + (d - 48)) ds

-- the number that digits stand for, 0 where there are none
abbrev pub number_of : List ℕ → ℕ
number_of ds = number_from 0 ds

-- ---- decimals

-- what stands before the point
abbrev pub before_point : List ℕ → List ℕ
before_point [] = []
before_point (b ∷ bs) = if b == 46 then [] else b ∷ before_point bs

-- what stands behind the point
abbrev pub behind_point : List ℕ → List ℕ
behind_point [] = []
behind_point (b ∷ bs) = if b == 46 then bs else behind_point bs

-- a zero with nothing behind it is left out
abbrev pub trimmed_to : ℕ → List ℕ → List ℕ
trimmed_to b [] = if b == 48 then [] else b ∷ []
trimmed_to b (d ∷ ds) = b ∷ d ∷ ds

-- without the zeros at the end
abbrev pub trimmed : List ℕ → List ℕ
trimmed [] = []
trimmed (b ∷ bs) = trimmed_to b (trimmed bs)

-- the number of the digits without the point, and without the zeros at the end of what stands behind it
abbrev pub decimal_number : List ℕ → ℕ
decimal_number bs = number_of (before_point bs ++ trimmed (behind_point bs))

-- the power of ten below them
abbrev pub decimal_power : List ℕ → ℕ
decimal_power bs = 10 ^ length (trimmed (behind_point bs))
