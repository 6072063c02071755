-- The symbols of what is read: a name is a word that isn't reserved in language 2 either, and a quoted text is one that can be written.
use Rattle.std.proofs.Common.{◌≡◌, ◌⊎◌, ◌≤◌, inl, inr, ℕ, Bool, true, false, List, [], ◌∷◌, map, length, refl, sym, subst, arith}
use Rattle.std.proofs.lemmas.Bool.Decides.{nat_tests}
use Rattle.std.specs.Prelude.{if◌then◌else◌, codes, nat_lt}
use Rattle.std.specs.Str.{bytes_eq}
use Rattle.std.specs.List.{list_any}
use Rattle.ded_lex.specs.Lexemes.{Lexeme, IsLexeme, BeginsWith, Each, letter_byte, word_byte}
use Rattle.ded_lex.specs.Lexemes as lexeme
use Rattle.ded_lex.specs.Tokens.{Cell, GapCell, LexemeCell, AreCells, lexemes_of}
use Rattle.ded_model.specs.declared.command.Language.{Language}
use Rattle.ded_model.specs.declared.command.Language.TheVariants.{Opening, One, Two}
use Rattle.ded_model.specs.declared.formula.CompareOp.TheVariants as op
use Rattle.ded_model.proofs.Bools.{or_false_left, or_false_right}
use Rattle.ded_model.proofs.Lists.{Every}
use Rattle.ded_terminals.specs.declared.item.Keyword.{Keyword}
use Rattle.ded_terminals.specs.declared.item.Keyword.TheVariants as words
use Rattle.ded_terminals.specs.Symbols.{Symbol, Word, Name, Quoted, Plus, Minus, Times, Open, Close, OpenBrace, CloseBrace, Comma, Colon, Define, Relation, formula_word, command_word, is_unused, unused_word, dedale_symbol, dump_symbol, language_word, word_symbol, sum_sign, other_sign, slash_symbol, decimal_symbol, symbol}
use Rattle.ded_syntax.specs.Spelling.{is_long_word}
use Rattle.ded_reread.specs.ScriptWords.{IsName, IsText}

-- ---- words

abbrev IsKeyword : Symbol → Type 0
IsKeyword (Word k) = Unit {0}
IsKeyword _ = ⊥

-- the first is reserved, or both are the name
abbrev IsAlike : List ℕ → Symbol → Symbol → Type 0
IsAlike w a b = IsKeyword a ⊎ ((a ≡ Name w) × (b ≡ Name w))

reserved : (w k : List ℕ) (kw : Keyword) (a b : Symbol) → IsAlike w a b → IsAlike w (if bytes_eq w k then Word kw else a) (if bytes_eq w k then Word kw else b)
reserved w k kw a b h = either (bytes_eq w k)
  where
    either : (t : Bool) → IsAlike w (if t then Word kw else a) (if t then Word kw else b)
    either true = inl tt
    either false = h

-- the word of one language
special : (w k : List ℕ) (s t a b : Symbol) → IsKeyword s → IsAlike w a b → IsAlike w (if bytes_eq w k then s else a) (if bytes_eq w k then t else b)
special w k s t a b p h = either (bytes_eq w k)
  where
    either : (x : Bool) → IsAlike w (if x then s else a) (if x then t else b)
    either true = inl p
    either false = h

formula_alike : (w : List ℕ) (a b : Symbol) → IsAlike w a b → IsAlike w (formula_word a w) (formula_word b w)
formula_alike w a b h =
    reserved w (codes "and") words.And _ _
    (reserved w (codes "or") words.Or _ _
    (reserved w (codes "not") words.Not _ _
    (reserved w (codes "implies") words.Implies _ _
    (reserved w (codes "exists") words.Exists _ _
    (reserved w (codes "forall") words.Forall _ _
    (reserved w (codes "true") words.True _ _
    (reserved w (codes "false") words.False _ _
    (reserved w (codes "closure") words.Closure _ _
    (reserved w (codes "interior") words.Interior _ _
    (reserved w (codes "text") words.Text _ _ h))))))))))

command_alike : (w : List ℕ) (a b : Symbol) → IsAlike w a b → IsAlike w (command_word a w) (command_word b w)
command_alike w a b h =
    reserved w (codes "relation") words.Relation _ _
    (reserved w (codes "insert") words.Insert _ _
    (reserved w (codes "delete") words.Delete _ _
    (reserved w (codes "drop") words.Drop _ _
    (reserved w (codes "view") words.View _ _
    (reserved w (codes "keep") words.Keep _ _
    (reserved w (codes "ask") words.Ask _ _
    (reserved w (codes "query") words.Query _ _
    (reserved w (codes "show") words.Show _ _
    (reserved w (codes "box") words.BoxOf _ _
    (reserved w (codes "explain") words.Explain _ _
    (reserved w (codes "disjoint") words.Disjoint _ _
    (reserved w (codes "verify") words.Verify _ _ h))))))))))))

unused_alike : (w : List ℕ) → IsAlike w (unused_word (Name w) w) (unused_word (Name w) w)
unused_alike w = either (is_unused w)
  where
    either : (x : Bool) → IsAlike w (if x then Word words.Unused else Name w) (if x then Word words.Unused else Name w)
    either true = inl tt
    either false = inr (refl, refl)

dedale_keyword : (language : Language) → IsKeyword (dedale_symbol language)
dedale_keyword Opening = tt
dedale_keyword One = tt
dedale_keyword Two = tt

dump_keyword : (language : Language) → IsKeyword (dump_symbol language)
dump_keyword Opening = tt
dump_keyword One = tt
dump_keyword Two = tt

word_alike : (language : Language) (w : List ℕ) → IsAlike w (word_symbol language w) (word_symbol Two w)
word_alike language w =
    formula_alike w _ _ (command_alike w (language_word language (unused_word (Name w) w) w) (language_word Two (unused_word (Name w) w) w)
    (special w (codes "dedale") (dedale_symbol language) (dedale_symbol Two) _ _ (dedale_keyword language)
    (special w (codes "dump") (dump_symbol language) (dump_symbol Two) _ _ (dump_keyword language) (unused_alike w))))

-- ---- symbols

-- a name and a quoted text can be written
abbrev pub IsGoodSymbol : Symbol → Type 0
IsGoodSymbol (Name n) = IsName n
IsGoodSymbol (Quoted t) = IsText t
IsGoodSymbol _ = Unit {0}

keyword_good : (s : Symbol) → IsKeyword s → IsGoodSymbol s
keyword_good (Word k) h = tt
keyword_good _ h = absurd h

short_word : (w : List ℕ) → nat_lt 64 (length w) ≡ false → length w ≤ 64
short_word w h = grind (arith, nat_tests)

word_good : (language : Language) (w : List ℕ) → BeginsWith letter_byte w → Each word_byte w → length w ≤ 64 → IsGoodSymbol (word_symbol language w)
word_good language w begins each short = by (word_alike language w)
  where
    by : IsAlike w (word_symbol language w) (word_symbol Two w) → IsGoodSymbol (word_symbol language w)
    by (inl k) = keyword_good (word_symbol language w) k
    by (inr e) = subst IsGoodSymbol (sym e.0) (record { begins = begins; each = each; short = short; free = e.1 })

-- one more sign
sign : (s k : List ℕ) (t other : Symbol) → IsGoodSymbol t → IsGoodSymbol other → IsGoodSymbol (if bytes_eq s k then t else other)
sign s k t other p h = either (bytes_eq s k)
  where
    either : (b : Bool) → IsGoodSymbol (if b then t else other)
    either true = p
    either false = h

sum_good : (s : List ℕ) (other : Symbol) → IsGoodSymbol other → IsGoodSymbol (sum_sign other s)
sum_good s other h =
    sign s (codes "+") Plus _ tt
    (sign s (codes "-") Minus _ tt
    (sign s (codes "*") Times _ tt
    (sign s (codes "<") (Relation op.Less) _ tt
    (sign s (codes "<=") (Relation op.LessEq) _ tt
    (sign s (codes "=") (Relation op.Equal) _ tt
    (sign s (codes "!=") (Relation op.NotEqual) _ tt
    (sign s (codes ">=") (Relation op.GreaterEq) _ tt
    (sign s (codes ">") (Relation op.Greater) _ tt h))))))))

other_good : (s : List ℕ) → IsGoodSymbol (other_sign s)
other_good s =
    sign s (codes "(") Open _ tt
    (sign s (codes ")") Close _ tt
    (sign s (codes "{") OpenBrace _ tt
    (sign s (codes "}") CloseBrace _ tt
    (sign s (codes ",") Comma _ tt
    (sign s (codes ":") Colon _ tt
    (sign s (codes ":=") Define (Word words.Unused) tt tt))))))

slash_good : (language : Language) → IsGoodSymbol (slash_symbol language)
slash_good Opening = tt
slash_good One = tt
slash_good Two = tt

decimal_good : (language : Language) (bs : List ℕ) → IsGoodSymbol (decimal_symbol language bs)
decimal_good Opening bs = tt
decimal_good One bs = tt
decimal_good Two bs = tt

symbol_good : (language : Language) (l : Lexeme) (next : List ℕ) → IsLexeme l next → is_long_word l ≡ false → IsGoodSymbol (symbol language l)
symbol_good language (lexeme.Word w) next p short = word_good language w p.0 p.1 (short_word w short)
symbol_good language (lexeme.Number ds) next p short = tt
symbol_good language (lexeme.Decimal bs) next p short = decimal_good language bs
symbol_good language (lexeme.Quoted t) next p short = p.0
symbol_good language (lexeme.Sign s) next p short = sum_good s _ (sign s (codes "/") (slash_symbol language) (other_sign s) (slash_good language) (other_good s))

pub symbols_good : (language : Language) (cells : List Cell) → AreCells cells → list_any is_long_word (lexemes_of cells) ≡ false → Every IsGoodSymbol (map (symbol language) (lexemes_of cells))
symbols_good language [] p short = tt
symbols_good language (GapCell gap ∷ cells) p short = symbols_good language cells p.1 short
symbols_good language (LexemeCell l ∷ cells) p short =
    (symbol_good language l _ p.0 (or_false_left (is_long_word l) (list_any is_long_word (lexemes_of cells)) short), symbols_good language cells p.1 (or_false_right (is_long_word l) (list_any is_long_word (lexemes_of cells)) short))
