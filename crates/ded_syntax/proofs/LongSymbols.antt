-- Long names and numbers, among lexemes and among symbols.
use Rattle.std.proofs.Common.{◌≡◌, ℕ, Bool, true, false, List, [], ◌∷◌, length, map, refl, sym, ap, ◌∙◌, arith}
use Rattle.std.specs.Prelude.{◌||◌, ◌^◌, nat_lt, nat_le, if◌then◌else◌, codes}
use Rattle.std.specs.List.{list_any}
use Rattle.std.specs.Str.{bytes_eq}
use Rattle.std.proofs.lemmas.Bool.Decides.{nat_tests}
use Rattle.ded_model.specs.declared.command.Language.{Language}
use Rattle.ded_model.specs.declared.command.Language.TheVariants.{Opening, One, Two}
use Rattle.ded_lex.specs.Lexemes.{Lexeme}
use Rattle.ded_lex.specs.Lexemes as lexeme
use Rattle.ded_model.specs.declared.formula.CompareOp.TheVariants as op
use Rattle.ded_terminals.specs.declared.item.Keyword.{Keyword}
use Rattle.ded_terminals.specs.declared.item.Keyword.TheVariants as words
use Rattle.ded_terminals.specs.Symbols.{Symbol, Word, Name, Number, Decimal, Plus, Minus, Times, Open, Close, OpenBrace, CloseBrace, Comma, Colon, Define, Relation, formula_word, command_word, is_unused, unused_word, dedale_symbol, dump_symbol, language_word, word_symbol, slash_symbol, sign_symbol, decimal_symbol, symbol, number_of, decimal_number, decimal_power}
use Rattle.ded_terminals.specs.Items.{is_long_name, is_long_literal}
use Rattle.ded_terminals.specs.Literals.{capped}
use Rattle.ded_syntax.specs.Spelling.{is_long_word, is_long_decimal, is_long_number}
use Rattle.ded_syntax.proofs.Agrees.{Alike, AllAlike}
use Rattle.std.proofs.lemmas.Slice.Eq.{bytes_eq-Decides}
use Rattle.std.proofs.lemmas.Bool.{or_parts}

-- ---- names

-- the symbol is a long name exactly where the word is long
abbrev Tells : List ℕ → Symbol → Type 0
Tells w t = is_long_name t ≡ nat_lt 64 (length w)

short_word : (w k : List ℕ) → bytes_eq w k ≡ true → nat_lt 64 (length k) ≡ false → nat_lt 64 (length w) ≡ false
short_word w k e short = ap (λ (l : List ℕ). nat_lt 64 (length l)) ((bytes_eq-Decides w k).0 e) ∙ short

-- one more reserved word
reserved : (w k : List ℕ) (kw : Keyword) (other : Symbol) → nat_lt 64 (length k) ≡ false → Tells w other → Tells w (if bytes_eq w k then Word kw else other)
reserved w k kw other short h = either (bytes_eq w k) refl
  where
    either : (b : Bool) → bytes_eq w k ≡ b → Tells w (if b then Word kw else other)
    either true e = sym (short_word w k e short)
    either false e = h

formula_tells : (w : List ℕ) (other : Symbol) → Tells w other → Tells w (formula_word other w)
formula_tells w other h =
    reserved w (codes "and") words.And _ refl
    (reserved w (codes "or") words.Or _ refl
    (reserved w (codes "not") words.Not _ refl
    (reserved w (codes "implies") words.Implies _ refl
    (reserved w (codes "exists") words.Exists _ refl
    (reserved w (codes "forall") words.Forall _ refl
    (reserved w (codes "true") words.True _ refl
    (reserved w (codes "false") words.False _ refl
    (reserved w (codes "closure") words.Closure _ refl
    (reserved w (codes "interior") words.Interior _ refl
    (reserved w (codes "text") words.Text _ refl h))))))))))

command_tells : (w : List ℕ) (other : Symbol) → Tells w other → Tells w (command_word other w)
command_tells w other h =
    reserved w (codes "relation") words.Relation _ refl
    (reserved w (codes "insert") words.Insert _ refl
    (reserved w (codes "delete") words.Delete _ refl
    (reserved w (codes "drop") words.Drop _ refl
    (reserved w (codes "view") words.View _ refl
    (reserved w (codes "keep") words.Keep _ refl
    (reserved w (codes "ask") words.Ask _ refl
    (reserved w (codes "query") words.Query _ refl
    (reserved w (codes "show") words.Show _ refl
    (reserved w (codes "box") words.BoxOf _ refl
    (reserved w (codes "explain") words.Explain _ refl
    (reserved w (codes "disjoint") words.Disjoint _ refl
    (reserved w (codes "verify") words.Verify _ refl h))))))))))))

-- a word of a list is short
unused_short : (w k : List ℕ) (b : Bool) → nat_lt 64 (length k) ≡ false → (b ≡ true → nat_lt 64 (length w) ≡ false) → (bytes_eq w k || b) ≡ true → nat_lt 64 (length w) ≡ false
unused_short w k b short more e = either (bytes_eq w k) refl e
  where
    either : (a : Bool) → bytes_eq w k ≡ a → (a || b) ≡ true → nat_lt 64 (length w) ≡ false
    either true f g = short_word w k f short
    either false f g = more g

unused_tells : (w : List ℕ) (other : Symbol) → Tells w other → Tells w (unused_word other w)
unused_tells w other h = either (is_unused w) refl
  where
    short : is_unused w ≡ true → nat_lt 64 (length w) ≡ false
    short e =
        unused_short w (codes "begin") _ refl
        (unused_short w (codes "commit") _ refl
        (λ f. short_word w (codes "abort") f refl)) e

    either : (b : Bool) → is_unused w ≡ b → Tells w (if b then Word words.Unused else other)
    either true e = sym (short e)
    either false e = h

dedale_tells : (language : Language) (w : List ℕ) → bytes_eq w (codes "dedale") ≡ true → Tells w (dedale_symbol language)
dedale_tells Opening w e = sym (short_word w (codes "dedale") e refl)
dedale_tells One w e = sym (short_word w (codes "dedale") e refl)
dedale_tells Two w e = sym (short_word w (codes "dedale") e refl)

dump_tells : (language : Language) (w : List ℕ) → bytes_eq w (codes "dump") ≡ true → Tells w (dump_symbol language)
dump_tells Opening w e = sym (short_word w (codes "dump") e refl)
dump_tells One w e = sym (short_word w (codes "dump") e refl)
dump_tells Two w e = sym (short_word w (codes "dump") e refl)

-- one more word of one language
chosen_tells : (w k : List ℕ) (t other : Symbol) → (bytes_eq w k ≡ true → Tells w t) → Tells w other → Tells w (if bytes_eq w k then t else other)
chosen_tells w k t other g h = either (bytes_eq w k) refl
  where
    either : (b : Bool) → bytes_eq w k ≡ b → Tells w (if b then t else other)
    either true e = g e
    either false e = h

language_tells : (language : Language) (w : List ℕ) (other : Symbol) → Tells w other → Tells w (language_word language other w)
language_tells language w other h =
    chosen_tells w (codes "dedale") (dedale_symbol language) _ (dedale_tells language w)
    (chosen_tells w (codes "dump") (dump_symbol language) _ (dump_tells language w) h)

word_tells : (language : Language) (w : List ℕ) → Tells w (word_symbol language w)
word_tells language w = formula_tells w _ (command_tells w _ (language_tells language w _ (unused_tells w (Name w) refl)))

-- ---- signs and words that are no name or number

-- one more choice
quiet_name : (s k : List ℕ) (t other : Symbol) → is_long_name t ≡ false → is_long_name other ≡ false → is_long_name (if bytes_eq s k then t else other) ≡ false
quiet_name s k t other e f = either (bytes_eq s k)
  where
    either : (b : Bool) → is_long_name (if b then t else other) ≡ false
    either true = e
    either false = f

quiet_literal : (s k : List ℕ) (t other : Symbol) → is_long_literal t ≡ false → is_long_literal other ≡ false → is_long_literal (if bytes_eq s k then t else other) ≡ false
quiet_literal s k t other e f = either (bytes_eq s k)
  where
    either : (b : Bool) → is_long_literal (if b then t else other) ≡ false
    either true = e
    either false = f

slash_name : (language : Language) → is_long_name (slash_symbol language) ≡ false
slash_name Opening = refl
slash_name One = refl
slash_name Two = refl

slash_literal : (language : Language) → is_long_literal (slash_symbol language) ≡ false
slash_literal Opening = refl
slash_literal One = refl
slash_literal Two = refl

name_sign : (language : Language) (s : List ℕ) → is_long_name (sign_symbol language s) ≡ false
name_sign language s =
    quiet_name s (codes "+") (Plus) _ refl
    (quiet_name s (codes "-") (Minus) _ refl
    (quiet_name s (codes "*") (Times) _ refl
    (quiet_name s (codes "<") (Relation op.Less) _ refl
    (quiet_name s (codes "<=") (Relation op.LessEq) _ refl
    (quiet_name s (codes "=") (Relation op.Equal) _ refl
    (quiet_name s (codes "!=") (Relation op.NotEqual) _ refl
    (quiet_name s (codes ">=") (Relation op.GreaterEq) _ refl
    (quiet_name s (codes ">") (Relation op.Greater) _ refl
    (quiet_name s (codes "/") (slash_symbol language) _ (slash_name language)
    (quiet_name s (codes "(") (Open) _ refl
    (quiet_name s (codes ")") (Close) _ refl
    (quiet_name s (codes "{") (OpenBrace) _ refl
    (quiet_name s (codes "}") (CloseBrace) _ refl
    (quiet_name s (codes ",") (Comma) _ refl
    (quiet_name s (codes ":") (Colon) _ refl
    (quiet_name s (codes ":=") (Define) _ refl refl))))))))))))))))

literal_sign : (language : Language) (s : List ℕ) → is_long_literal (sign_symbol language s) ≡ false
literal_sign language s =
    quiet_literal s (codes "+") (Plus) _ refl
    (quiet_literal s (codes "-") (Minus) _ refl
    (quiet_literal s (codes "*") (Times) _ refl
    (quiet_literal s (codes "<") (Relation op.Less) _ refl
    (quiet_literal s (codes "<=") (Relation op.LessEq) _ refl
    (quiet_literal s (codes "=") (Relation op.Equal) _ refl
    (quiet_literal s (codes "!=") (Relation op.NotEqual) _ refl
    (quiet_literal s (codes ">=") (Relation op.GreaterEq) _ refl
    (quiet_literal s (codes ">") (Relation op.Greater) _ refl
    (quiet_literal s (codes "/") (slash_symbol language) _ (slash_literal language)
    (quiet_literal s (codes "(") (Open) _ refl
    (quiet_literal s (codes ")") (Close) _ refl
    (quiet_literal s (codes "{") (OpenBrace) _ refl
    (quiet_literal s (codes "}") (CloseBrace) _ refl
    (quiet_literal s (codes ",") (Comma) _ refl
    (quiet_literal s (codes ":") (Colon) _ refl
    (quiet_literal s (codes ":=") (Define) _ refl refl))))))))))))))))

unused_literal : (s : List ℕ) → is_long_literal (unused_word (Name s) s) ≡ false
unused_literal s = either (is_unused s)
  where
    either : (b : Bool) → is_long_literal (if b then Word words.Unused else Name s) ≡ false
    either true = refl
    either false = refl

dedale_literal : (language : Language) → is_long_literal (dedale_symbol language) ≡ false
dedale_literal Opening = refl
dedale_literal One = refl
dedale_literal Two = refl

dump_literal : (language : Language) → is_long_literal (dump_symbol language) ≡ false
dump_literal Opening = refl
dump_literal One = refl
dump_literal Two = refl

literal_word : (language : Language) (s : List ℕ) → is_long_literal (word_symbol language s) ≡ false
literal_word language s =
    quiet_literal s (codes "and") (Word words.And) _ refl
    (quiet_literal s (codes "or") (Word words.Or) _ refl
    (quiet_literal s (codes "not") (Word words.Not) _ refl
    (quiet_literal s (codes "implies") (Word words.Implies) _ refl
    (quiet_literal s (codes "exists") (Word words.Exists) _ refl
    (quiet_literal s (codes "forall") (Word words.Forall) _ refl
    (quiet_literal s (codes "true") (Word words.True) _ refl
    (quiet_literal s (codes "false") (Word words.False) _ refl
    (quiet_literal s (codes "closure") (Word words.Closure) _ refl
    (quiet_literal s (codes "interior") (Word words.Interior) _ refl
    (quiet_literal s (codes "text") (Word words.Text) _ refl
    (quiet_literal s (codes "relation") (Word words.Relation) _ refl
    (quiet_literal s (codes "insert") (Word words.Insert) _ refl
    (quiet_literal s (codes "delete") (Word words.Delete) _ refl
    (quiet_literal s (codes "drop") (Word words.Drop) _ refl
    (quiet_literal s (codes "view") (Word words.View) _ refl
    (quiet_literal s (codes "keep") (Word words.Keep) _ refl
    (quiet_literal s (codes "ask") (Word words.Ask) _ refl
    (quiet_literal s (codes "query") (Word words.Query) _ refl
    (quiet_literal s (codes "show") (Word words.Show) _ refl
    (quiet_literal s (codes "box") (Word words.BoxOf) _ refl
    (quiet_literal s (codes "explain") (Word words.Explain) _ refl
    (quiet_literal s (codes "disjoint") (Word words.Disjoint) _ refl
    (quiet_literal s (codes "verify") (Word words.Verify) _ refl
    (quiet_literal s (codes "dedale") (dedale_symbol language) _ (dedale_literal language)
    (quiet_literal s (codes "dump") (dump_symbol language) _ (dump_literal language) (unused_literal s))))))))))))))))))))))))))

-- ---- lexemes

decimal_name : (language : Language) (bs : List ℕ) → is_long_name (decimal_symbol language bs) ≡ false
decimal_name Opening bs = refl
decimal_name One bs = refl
decimal_name Two bs = refl

symbol_name : (language : Language) (l : Lexeme) → is_long_name (symbol language l) ≡ is_long_word l
symbol_name language (lexeme.Word w) = word_tells language w
symbol_name language (lexeme.Number ds) = refl
symbol_name language (lexeme.Decimal bs) = decimal_name language bs
symbol_name language (lexeme.Quoted t) = refl
symbol_name language (lexeme.Sign s) = name_sign language s

decimal_literal : (language : Language) (bs : List ℕ) → is_long_literal (decimal_symbol language bs) ≡ is_long_decimal language bs
decimal_literal Opening bs = refl
decimal_literal One bs = refl
decimal_literal Two bs = refl

symbol_literal : (language : Language) (l : Lexeme) → is_long_literal (symbol language l) ≡ is_long_number language l
symbol_literal language (lexeme.Word w) = literal_word language w
symbol_literal language (lexeme.Number ds) = refl
symbol_literal language (lexeme.Decimal bs) = decimal_literal language bs
symbol_literal language (lexeme.Quoted t) = refl
symbol_literal language (lexeme.Sign s) = literal_sign language s

any_same : (language : Language) (f : Symbol → Bool) (g : Lexeme → Bool) → ((l : Lexeme) → f (symbol language l) ≡ g l) → (ls : List Lexeme) → list_any f (map (symbol language) ls) ≡ list_any g ls
any_same language f g h [] = refl
any_same language f g h (l ∷ ls) = ap (λ (b : Bool). b || list_any f (map (symbol language) ls)) (h l) ∙ ap (λ (b : Bool). g l || b) (any_same language f g h ls)

pub long_names : (language : Language) (ls : List Lexeme) → list_any is_long_name (map (symbol language) ls) ≡ list_any is_long_word ls
long_names language ls = any_same language is_long_name is_long_word (symbol_name language) ls

pub long_literals : (language : Language) (ls : List Lexeme) → list_any is_long_literal (map (symbol language) ls) ≡ list_any (is_long_number language) ls
long_literals language ls = any_same language is_long_literal (is_long_number language) (symbol_literal language) ls

-- ---- numbers that are not long are read as they are

pub not_capped : (n : ℕ) → nat_le (2 ^ 63) n ≡ false → capped n ≡ n
not_capped n h = grind (arith, nat_tests)

symbol_alike : (t : Symbol) → is_long_literal t ≡ false → Alike capped (λ n. n) t
symbol_alike (Number d) e = not_capped (number_of d) e
symbol_alike (Decimal bs) e = let both = or_parts (nat_le (2 ^ 63) (decimal_number bs)) (nat_le (2 ^ 63) (decimal_power bs)) e in (not_capped (decimal_number bs) both.0, not_capped (decimal_power bs) both.1)
symbol_alike t e = tt

pub all_alike : (ts : List Symbol) → list_any is_long_literal ts ≡ false → AllAlike capped (λ n. n) ts
all_alike [] e = tt
all_alike (t ∷ ts) e = let both = or_parts (is_long_literal t) (list_any is_long_literal ts) e in (symbol_alike t both.0, all_alike ts both.1)
