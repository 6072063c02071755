-- The names of a command that bytes spell are words of the grammar, or made of such words.
--
-- A name is the symbol of a word that isn't reserved, and a word among lexemes begins with a letter and goes on with letters
-- and digits. So each name among the symbols of a command is plain, and a command has no other names but those that are made of these.
use Rattle.std.proofs.Common.{ℕ, Bool, true, false, List, [], ◌∷◌, ◌++◌, map, sym, subst, inl, inr}
use Rattle.std.specs.Prelude.{if◌then◌else◌, codes}
use Rattle.std.specs.Str.{bytes_eq}
use Rattle.std.specs.List.{AllByRecursion}
use Rattle.ded_lex.specs.Lexemes.{Lexeme, IsLexeme}
use Rattle.ded_lex.specs.Lexemes as lexeme
use Rattle.ded_lex.specs.Tokens.{Cell, GapCell, LexemeCell, AreCells, lexemes_of}
use Rattle.ded_model.specs.declared.name.Column.{Column}
use Rattle.ded_model.specs.declared.command.Language.{Language}
use Rattle.ded_model.specs.declared.command.Language.TheVariants.{Opening, One, Two}
use Rattle.ded_model.specs.declared.formula.CompareOp.TheVariants as op
use Rattle.ded_model.specs.Command.{CommandForm}
use Rattle.ded_model.specs.Form.{Form}
use Rattle.ded_grammar.specs.Trees.{TerminalForm, nay, conjunct, disjunct, arrow, opening, closing, binder, leaf}
use Rattle.ded_grammar.proofs.Carried.{TerminalHas, TerminalsHave, spelled_has}
use Rattle.ded_terminals.specs.declared.item.Keyword.{Keyword}
use Rattle.ded_terminals.specs.declared.item.Keyword.TheVariants as words
use Rattle.ded_terminals.specs.Symbols.{Symbol, Word, Name, Plus, Minus, Times, Open, Close, OpenBrace, CloseBrace, Comma, Colon, Define, Relation, formula_word, command_word, is_unused, unused_word, dedale_symbol, dump_symbol, language_word, word_symbol, sum_sign, other_sign, slash_symbol, decimal_symbol, symbol}
use Rattle.ded_terminals.specs.Literals.{Reader, exact}
use Rattle.ded_terminals.specs.Atoms.{spell_rest, Named, plain, closed, inner, spell_named, Atom, truth, relates, belongs, spell_atom, atom_form, spell_column, sort_symbols, IsTerminal, AreTerminals, SpellsFormula}
use Rattle.ded_syntax.specs.Commands.{Columns, spell_heading, heading, Plain, opens, defines, inserts_none, inserts, deletes, drops, keeps, shows, boxes, dumps, certifies, verifies_none, verifies, spell_plain, plain_form, Prefix, views, asks, queries, explains, spell_prefix, prefix_form, SpellsCommand}
use Rattle.ded_terminals.specs.MemberNames.{IsWordName, word_of}
use Rattle.ded_terminals.specs.Operands.{spell_side}
use Rattle.ded_syntax.specs.Spelling.{Spells}
use Rattle.ded_terminals.proofs.MemberNames.{named_member}
use Rattle.ded_session.specs.PlainNames.{IsPlainName, ArePlainColumns, IsPlainUse, UsesPlainNames, NamesPlainly}

abbrev IsPlainSymbol : Symbol → Type 0
IsPlainSymbol (Name n) = IsPlainName n
IsPlainSymbol _ = Unit {0}

abbrev ArePlainSymbols : List Symbol → Type 0
ArePlainSymbols = AllByRecursion IsPlainSymbol

-- ---- symbols of lexemes

-- one more reserved word
reserved : (w k : List ℕ) (kw : Keyword) (other : Symbol) → IsPlainSymbol other → IsPlainSymbol (if bytes_eq w k then Word kw else other)
reserved w k kw other h = either (bytes_eq w k)
  where
    either : (b : Bool) → IsPlainSymbol (if b then Word kw else other)
    either true = tt
    either false = h

formula_plain : (w : List ℕ) (other : Symbol) → IsPlainSymbol other → IsPlainSymbol (formula_word other w)
formula_plain w other h =
    reserved w (codes "and") words.And _
    (reserved w (codes "or") words.Or _
    (reserved w (codes "not") words.Not _
    (reserved w (codes "implies") words.Implies _
    (reserved w (codes "exists") words.Exists _
    (reserved w (codes "forall") words.Forall _
    (reserved w (codes "true") words.True _
    (reserved w (codes "false") words.False _
    (reserved w (codes "closure") words.Closure _
    (reserved w (codes "interior") words.Interior _
    (reserved w (codes "text") words.Text _ h))))))))))

command_plain : (w : List ℕ) (other : Symbol) → IsPlainSymbol other → IsPlainSymbol (command_word other w)
command_plain w other h =
    reserved w (codes "relation") words.Relation _
    (reserved w (codes "insert") words.Insert _
    (reserved w (codes "delete") words.Delete _
    (reserved w (codes "drop") words.Drop _
    (reserved w (codes "view") words.View _
    (reserved w (codes "keep") words.Keep _
    (reserved w (codes "ask") words.Ask _
    (reserved w (codes "query") words.Query _
    (reserved w (codes "show") words.Show _
    (reserved w (codes "box") words.BoxOf _
    (reserved w (codes "explain") words.Explain _
    (reserved w (codes "disjoint") words.Disjoint _
    (reserved w (codes "verify") words.Verify _ h))))))))))))

unused_plain : (w : List ℕ) (other : Symbol) → IsPlainSymbol other → IsPlainSymbol (unused_word other w)
unused_plain w other h = either (is_unused w)
  where
    either : (b : Bool) → IsPlainSymbol (if b then Word words.Unused else other)
    either true = tt
    either false = h

-- one more sign, or a word of one language
sign : (s k : List ℕ) (t other : Symbol) → IsPlainSymbol t → IsPlainSymbol other → IsPlainSymbol (if bytes_eq s k then t else other)
sign s k t other p h = either (bytes_eq s k)
  where
    either : (b : Bool) → IsPlainSymbol (if b then t else other)
    either true = p
    either false = h

dedale_plain : (language : Language) → IsPlainSymbol (dedale_symbol language)
dedale_plain Opening = tt
dedale_plain One = tt
dedale_plain Two = tt

dump_plain : (language : Language) → IsPlainSymbol (dump_symbol language)
dump_plain Opening = tt
dump_plain One = tt
dump_plain Two = tt

word_plain : (language : Language) (w : List ℕ) → IsPlainName w → IsPlainSymbol (word_symbol language w)
word_plain language w h =
    formula_plain w _ (command_plain w (language_word language (unused_word (Name w) w) w)
    (sign w (codes "dedale") (dedale_symbol language) _ (dedale_plain language)
    (sign w (codes "dump") (dump_symbol language) (unused_word (Name w) w) (dump_plain language) (unused_plain w (Name w) h))))

sum_plain : (s : List ℕ) (other : Symbol) → IsPlainSymbol other → IsPlainSymbol (sum_sign other s)
sum_plain s other h =
    sign s (codes "+") Plus _ tt
    (sign s (codes "-") Minus _ tt
    (sign s (codes "*") Times _ tt
    (sign s (codes "<") (Relation op.Less) _ tt
    (sign s (codes "<=") (Relation op.LessEq) _ tt
    (sign s (codes "=") (Relation op.Equal) _ tt
    (sign s (codes "!=") (Relation op.NotEqual) _ tt
    (sign s (codes ">=") (Relation op.GreaterEq) _ tt
    (sign s (codes ">") (Relation op.Greater) _ tt h))))))))

other_plain : (s : List ℕ) → IsPlainSymbol (other_sign s)
other_plain s =
    sign s (codes "(") Open _ tt
    (sign s (codes ")") Close _ tt
    (sign s (codes "{") OpenBrace _ tt
    (sign s (codes "}") CloseBrace _ tt
    (sign s (codes ",") Comma _ tt
    (sign s (codes ":") Colon _ tt
    (sign s (codes ":=") Define (Word words.Unused) tt tt))))))

slash_plain : (language : Language) → IsPlainSymbol (slash_symbol language)
slash_plain Opening = tt
slash_plain One = tt
slash_plain Two = tt

decimal_plain : (language : Language) (bs : List ℕ) → IsPlainSymbol (decimal_symbol language bs)
decimal_plain Opening bs = tt
decimal_plain One bs = tt
decimal_plain Two bs = tt

symbol_plain : (language : Language) (l : Lexeme) (next : List ℕ) → IsLexeme l next → IsPlainSymbol (symbol language l)
symbol_plain language (lexeme.Word w) next p = word_plain language w (p.0, p.1)
symbol_plain language (lexeme.Number ds) next p = tt
symbol_plain language (lexeme.Decimal bs) next p = decimal_plain language bs
symbol_plain language (lexeme.Quoted t) next p = tt
symbol_plain language (lexeme.Sign s) next p = sum_plain s _ (sign s (codes "/") (slash_symbol language) (other_sign s) (slash_plain language) (other_plain s))

symbols_plain : (language : Language) (cells : List Cell) → AreCells cells → ArePlainSymbols (map (symbol language) (lexemes_of cells))
symbols_plain language [] p = tt
symbols_plain language (GapCell gap ∷ cells) p = symbols_plain language cells p.1
symbols_plain language (LexemeCell l ∷ cells) p = (symbol_plain language l _ p.0, symbols_plain language cells p.1)

-- ---- parts of symbols

front : (ts us : List Symbol) → ArePlainSymbols (ts ++ us) → ArePlainSymbols ts
front [] us h = tt
front (t ∷ ts) us h = (h.0, front ts us h.1)

back : (ts us : List Symbol) → ArePlainSymbols (ts ++ us) → ArePlainSymbols us
back [] us h = h
back (t ∷ ts) us h = back ts us h.1

columns_plain : (cs : List Column) → ArePlainSymbols (spell_rest spell_column cs) → ArePlainColumns cs
columns_plain [] h = tt
columns_plain (c ∷ cs) h = (h.1.0, columns_plain cs (back (sort_symbols c.sort) (spell_rest spell_column cs) h.1.1))

heading_plain : (h : Columns) → ArePlainSymbols (spell_heading h) → ArePlainColumns (heading h)
heading_plain h p =
    (p.1.0, columns_plain h.rest (front (spell_rest spell_column h.rest) (Close ∷ []) (back (sort_symbols h.first.sort) (spell_rest spell_column h.rest ++ Close ∷ []) p.1.1)))

-- ---- formulas

word_in : (m : Named) (ts : List Symbol) → ArePlainSymbols (spell_named m ++ ts) → IsWordName (word_of m)
word_in (plain n) ts h = h.0
word_in (closed n) ts h = h.1.1.0
word_in (inner n) ts h = h.1.1.0

atom_plain : (value : Reader) (a : Atom) → ArePlainSymbols (spell_atom a) → UsesPlainNames (atom_form value a)
atom_plain value (truth true) h = tt
atom_plain value (truth false) h = tt
atom_plain value (relates c) h = tt
atom_plain value (belongs m s ss) h = named_member m (word_in m (Open ∷ (spell_side s ++ (spell_rest spell_side ss ++ Close ∷ []))) h)

terminal_plain : (value : Reader) (ts : List Symbol) (p : TerminalForm) → ArePlainSymbols ts → IsTerminal value ts p → TerminalHas IsPlainUse p
terminal_plain value ts nay q h = tt
terminal_plain value ts conjunct q h = tt
terminal_plain value ts disjunct q h = tt
terminal_plain value ts arrow q h = tt
terminal_plain value ts opening q h = tt
terminal_plain value ts closing q h = tt
terminal_plain value ts (binder b c) q h = tt
terminal_plain value ts (leaf f) q h = subst UsesPlainNames h.2 (atom_plain value h.0 (subst ArePlainSymbols h.1 q))

terminals_plain : (value : Reader) (ts : List Symbol) (ps : List TerminalForm) → ArePlainSymbols ts → AreTerminals value ts ps → TerminalsHave IsPlainUse ps
terminals_plain value ts [] q h = tt
terminals_plain value ts (p ∷ ps) q h =
    let both = subst ArePlainSymbols h.2 q in
    (terminal_plain value h.0 p (front h.0 h.1 both) h.3, terminals_plain value h.1 ps (back h.0 h.1 both) h.4)

formula_uses : (value : Reader) (ts : List Symbol) (f : Form) (depth : ℕ) → ArePlainSymbols ts → SpellsFormula value ts f depth → UsesPlainNames f
formula_uses value ts f depth q s = spelled_has IsPlainUse s.terminals f depth s.spells (terminals_plain value ts s.terminals q s.are)

-- ---- commands

flat_plain : (value : Reader) (p : Plain) → ArePlainSymbols (spell_plain p) → NamesPlainly (plain_form value p)
flat_plain value (opens d two) q = tt
flat_plain value (defines n h) q = (q.1.0, heading_plain h q.1.1)
flat_plain value (inserts_none n) q = q.1.0
flat_plain value (inserts n c cs) q = q.1.0
flat_plain value (deletes n d) q = q.1.0
flat_plain value (drops n) q = q.1.0
flat_plain value (keeps n) q = q.1.0
flat_plain value (shows n) q = q.1.0
flat_plain value (boxes n) q = q.1.0
flat_plain value (certifies n m) q = (q.1.0, q.1.1.0)
flat_plain value (verifies_none n m) q = (q.1.0, q.1.1.0)
flat_plain value (verifies n m e es) q = (q.1.0, q.1.1.0)
flat_plain value dumps q = tt

before_plain : (p : Prefix) (f : Form) → ArePlainSymbols (spell_prefix p) → UsesPlainNames f → NamesPlainly (prefix_form p f)
before_plain (views n h) f q u = (q.1.0, heading_plain h (front (spell_heading h) (Define ∷ []) q.1.1), u)
before_plain asks f q u = u
before_plain (queries h) f q u = (heading_plain h (front (spell_heading h) (Colon ∷ []) q.1), u)
before_plain (explains h) f q u = (heading_plain h (front (spell_heading h) (Colon ∷ []) q.1), u)

command_names : (value : Reader) (ts : List Symbol) (c : CommandForm) (depth : ℕ) → ArePlainSymbols ts → SpellsCommand value ts c depth → NamesPlainly c
command_names value ts c depth q (inl s) = subst NamesPlainly (sym s.means) (flat_plain value s.plain (subst ArePlainSymbols s.spelled q))
command_names value ts c depth q (inr s) =
    let both = subst ArePlainSymbols s.spelled q in
    subst NamesPlainly (sym s.means)
    (before_plain s.before s.formula (front (spell_prefix s.before) s.rest both) (formula_uses value s.rest s.formula depth (back (spell_prefix s.before) s.rest both) s.spells))

-- a command that bytes spell
pub spelled_names : (language : Language) (bytes : List ℕ) (c : CommandForm) (depth : ℕ) → Spells language bytes c depth → NamesPlainly c
spelled_names language bytes c depth s =
    command_names exact (map (symbol language) s.lexemes) c depth
    (subst (λ (ls : List Lexeme). ArePlainSymbols (map (symbol language) ls)) s.are.lexemes_are (symbols_plain language s.are.cells s.are.each)) s.command
