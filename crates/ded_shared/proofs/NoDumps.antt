-- The plain language spells no dump, since it doesn't have its word.
use Rattle.std.proofs.Common.{◌≡◌, ℕ, Bool, true, false, List, [], ◌∷◌, map, inl, inr, refl, sym, ap, ◌∙◌, true≢false}
use Rattle.std.specs.Prelude.{if◌then◌else◌, codes}
use Rattle.std.specs.Str.{bytes_eq}
use Rattle.ded_lex.specs.Lexemes.{Lexeme}
use Rattle.ded_lex.specs.Lexemes as lexeme
use Rattle.ded_model.specs.declared.command.Language.TheVariants.{One}
use Rattle.ded_model.specs.declared.formula.CompareOp.TheVariants as op
use Rattle.ded_model.specs.Command.{dump}
use Rattle.ded_model.specs.Form.{Form}
use Rattle.ded_terminals.specs.declared.item.Keyword.TheVariants as words
use Rattle.ded_terminals.specs.Symbols.{Symbol, Word, Name, Plus, Minus, Times, Open, Close, OpenBrace, CloseBrace, Comma, Colon, Define, Relation, is_unused, unused_word, dedale_symbol, dump_symbol, word_symbol, slash_symbol, sign_symbol, symbol}
use Rattle.ded_terminals.specs.Literals.{Reader, exact}
use Rattle.ded_syntax.specs.Commands.{Plain, opens, defines, inserts_none, inserts, deletes, drops, keeps, shows, boxes, dumps, certifies, verifies_none, verifies, spell_plain, plain_form, Prefix, views, asks, queries, explains, prefix_form, SpellsCommand}
use Rattle.ded_syntax.specs.Spelling.{Spells}

-- ---- symbols

abbrev is_dump : Symbol → Bool
is_dump (Word words.Dump) = true
is_dump _ = false

-- one more choice
other : (s k : List ℕ) (t rest : Symbol) → is_dump t ≡ false → is_dump rest ≡ false → is_dump (if bytes_eq s k then t else rest) ≡ false
other s k t rest e f = either (bytes_eq s k)
  where
    either : (b : Bool) → is_dump (if b then t else rest) ≡ false
    either true = e
    either false = f

unused_other : (s : List ℕ) → is_dump (unused_word (Name s) s) ≡ false
unused_other s = either (is_unused s)
  where
    either : (b : Bool) → is_dump (if b then Word words.Unused else Name s) ≡ false
    either true = refl
    either false = refl

word_other : (s : List ℕ) → is_dump (word_symbol One s) ≡ false
word_other s =
    other s (codes "and") (Word words.And) _ refl
    (other s (codes "or") (Word words.Or) _ refl
    (other s (codes "not") (Word words.Not) _ refl
    (other s (codes "implies") (Word words.Implies) _ refl
    (other s (codes "exists") (Word words.Exists) _ refl
    (other s (codes "forall") (Word words.Forall) _ refl
    (other s (codes "true") (Word words.True) _ refl
    (other s (codes "false") (Word words.False) _ refl
    (other s (codes "closure") (Word words.Closure) _ refl
    (other s (codes "interior") (Word words.Interior) _ refl
    (other s (codes "text") (Word words.Text) _ refl
    (other s (codes "relation") (Word words.Relation) _ refl
    (other s (codes "insert") (Word words.Insert) _ refl
    (other s (codes "delete") (Word words.Delete) _ refl
    (other s (codes "drop") (Word words.Drop) _ refl
    (other s (codes "view") (Word words.View) _ refl
    (other s (codes "keep") (Word words.Keep) _ refl
    (other s (codes "ask") (Word words.Ask) _ refl
    (other s (codes "query") (Word words.Query) _ refl
    (other s (codes "show") (Word words.Show) _ refl
    (other s (codes "box") (Word words.BoxOf) _ refl
    (other s (codes "explain") (Word words.Explain) _ refl
    (other s (codes "disjoint") (Word words.Disjoint) _ refl
    (other s (codes "verify") (Word words.Verify) _ refl
    (other s (codes "dedale") (dedale_symbol One) _ refl
    (other s (codes "dump") (dump_symbol One) _ refl (unused_other s))))))))))))))))))))))))))

sign_other : (s : List ℕ) → is_dump (sign_symbol One s) ≡ false
sign_other s =
    other s (codes "+") Plus _ refl
    (other s (codes "-") Minus _ refl
    (other s (codes "*") Times _ refl
    (other s (codes "<") (Relation op.Less) _ refl
    (other s (codes "<=") (Relation op.LessEq) _ refl
    (other s (codes "=") (Relation op.Equal) _ refl
    (other s (codes "!=") (Relation op.NotEqual) _ refl
    (other s (codes ">=") (Relation op.GreaterEq) _ refl
    (other s (codes ">") (Relation op.Greater) _ refl
    (other s (codes "/") (slash_symbol One) _ refl
    (other s (codes "(") Open _ refl
    (other s (codes ")") Close _ refl
    (other s (codes "{") OpenBrace _ refl
    (other s (codes "}") CloseBrace _ refl
    (other s (codes ",") Comma _ refl
    (other s (codes ":") Colon _ refl
    (other s (codes ":=") Define _ refl refl))))))))))))))))

no_word : (t : Lexeme) → is_dump (symbol One t) ≡ false
no_word (lexeme.Word w) = word_other w
no_word (lexeme.Number ds) = refl
no_word (lexeme.Decimal bs) = refl
no_word (lexeme.Quoted t) = refl
no_word (lexeme.Sign s) = sign_other s

-- ---- commands

abbrev begins : List Symbol → Bool
begins [] = false
begins (t ∷ ts) = is_dump t

-- the symbols of a dump begin with its word
plain_begins : (value : Reader) (p : Plain) → dump ≡ plain_form value p → begins (spell_plain p) ≡ true
plain_begins value (opens d two) e = absurd cc
plain_begins value (defines n h) e = absurd cc
plain_begins value (inserts_none n) e = absurd cc
plain_begins value (inserts n c cs) e = absurd cc
plain_begins value (deletes n d) e = absurd cc
plain_begins value (drops n) e = absurd cc
plain_begins value (keeps n) e = absurd cc
plain_begins value (shows n) e = absurd cc
plain_begins value (boxes n) e = absurd cc
plain_begins value dumps e = refl
plain_begins value (certifies n m) e = absurd cc
plain_begins value (verifies_none n m) e = absurd cc
plain_begins value (verifies n m x xs) e = absurd cc

-- it has no formula
no_formula : (p : Prefix) (f : Form) → dump ≡ prefix_form p f → ⊥
no_formula (views n h) f e = cc
no_formula asks f e = cc
no_formula (queries h) f e = cc
no_formula (explains h) f e = cc

no_begin : (ls : List Lexeme) → begins (map (symbol One) ls) ≡ false
no_begin [] = refl
no_begin (t ∷ ts) = no_word t

pub no_dump : (bytes : List ℕ) (depth : ℕ) → Spells One bytes dump depth → ⊥
no_dump bytes depth s = by s.command
  where
    by : SpellsCommand exact (map (symbol One) s.lexemes) dump depth → ⊥
    by (inl p) = true≢false (sym (ap begins p.spelled ∙ plain_begins exact p.plain p.means) ∙ no_begin s.lexemes)
    by (inr p) = no_formula p.before p.formula p.means
