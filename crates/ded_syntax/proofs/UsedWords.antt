-- The symbol of what a language doesn't have stands in no command, and the plain language doesn't have the word of the header.
use Rattle.std.proofs.Common.{◌≡◌, ℕ, Bool, true, false, List, [], ◌∷◌, ◌++◌, refl, sym, subst, inl, inr}
use Rattle.std.specs.Prelude.{if◌then◌else◌, codes}
use Rattle.std.specs.Str.{bytes_eq}
use Rattle.std.specs.List.{AllByRecursion}
use Rattle.ded_lex.specs.Lexemes.{Lexeme}
use Rattle.ded_lex.specs.Lexemes as lexeme
use Rattle.ded_model.specs.declared.name.Column.{Column}
use Rattle.ded_model.specs.declared.slot.Sort.{Sort}
use Rattle.ded_model.specs.declared.slot.Sort.TheVariants.{Rat, Text}
use Rattle.ded_model.specs.declared.command.Language.TheVariants.{One}
use Rattle.ded_model.specs.declared.formula.CompareOp.TheVariants as op
use Rattle.ded_model.specs.Command.{CommandForm}
use Rattle.ded_grammar.specs.declared.terminal.Quantifier.{Quantifier}
use Rattle.ded_grammar.specs.declared.terminal.Quantifier.TheVariants.{Exists, Forall}
use Rattle.ded_grammar.specs.Trees.{TerminalForm, nay, conjunct, disjunct, arrow, opening, closing, binder, leaf}
use Rattle.ded_terminals.specs.declared.item.Keyword.TheVariants as words
use Rattle.ded_terminals.specs.Symbols.{Symbol, Word, Name, Plus, Minus, Times, Open, Close, OpenBrace, CloseBrace, Comma, Colon, Define, Relation, is_unused, unused_word, dedale_symbol, dump_symbol, word_symbol, slash_symbol, sign_symbol, symbol}
use Rattle.ded_terminals.specs.Literals.{Reader, Scalar, whole, quotient, decimal, spell_scalar}
use Rattle.ded_terminals.specs.Operands.{Product, scaled, constant, lone, ParsedSide, text, sum, spell_product, spell_sign, spell_more, spell_side}
use Rattle.ded_terminals.specs.Atoms.{spell_rest, Comparison, spell_comparison, Named, plain, closed, inner, spell_named, Atom, truth, relates, belongs, spell_atom, spell_column, sort_symbols, quantifier_symbol, IsTerminal, AreTerminals}
use Rattle.ded_syntax.specs.Certificates.{Integer, spell_integers, ProofTree, by_text, by_rows, spell_proof, EntryTree, spell_entry}
use Rattle.ded_syntax.specs.Commands.{Columns, spell_heading, Plain, opens, defines, inserts_none, inserts, deletes, drops, keeps, shows, boxes, dumps, certifies, verifies_none, verifies, spell_plain, Prefix, views, asks, queries, explains, spell_prefix, SpellsCommand}
use Rattle.ded_syntax.specs.Headers.{is_dedale}

-- ---- what stands in commands

abbrev pub IsUsed : Symbol → Type 0
IsUsed (Word words.Unused) = ⊥
IsUsed t = Unit {0}

abbrev pub AreUsed : List Symbol → Type 0
AreUsed = AllByRecursion IsUsed

both : (ts us : List Symbol) → AreUsed ts → AreUsed us → AreUsed (ts ++ us)
both [] us p q = q
both (t ∷ ts) us p q = (p.0, both ts us p.1 q)

scalar_used : (s : Scalar) → AreUsed (spell_scalar s)
scalar_used (whole d) = (tt, tt)
scalar_used (quotient d e n) = (tt, (tt, (tt, tt)))
scalar_used (decimal t) = (tt, tt)

product_used : (p : Product) → AreUsed (spell_product p)
product_used (scaled s n) = both (spell_scalar s) (Times ∷ Name n ∷ []) (scalar_used s) (tt, (tt, tt))
product_used (constant s) = scalar_used s
product_used (lone n) = (tt, tt)

sign_used : (minus : Bool) → IsUsed (spell_sign minus)
sign_used true = tt
sign_used false = tt

more_used : (ps : List (Bool × Product)) → AreUsed (spell_more ps)
more_used [] = tt
more_used (p ∷ ps) = (sign_used p.0, both (spell_product p.1) (spell_more ps) (product_used p.1) (more_used ps))

side_used : (s : ParsedSide) → AreUsed (spell_side s)
side_used (text s) = (tt, tt)
side_used (sum true p ps) = (tt, both (spell_product p) (spell_more ps) (product_used p) (more_used ps))
side_used (sum false p ps) = both (spell_product p) (spell_more ps) (product_used p) (more_used ps)

comparison_used : (c : Comparison) → AreUsed (spell_comparison c)
comparison_used c = both (spell_side c.left) (Relation c.op ∷ spell_side c.right) (side_used c.left) (tt, side_used c.right)

module _ {T : Type 0} (spell : T → List Symbol) (used : (x : T) → AreUsed (spell x)) where
  rest_used : (xs : List T) → AreUsed (spell_rest spell xs)
  rest_used [] = tt
  rest_used (x ∷ xs) = (tt, both (spell x) (spell_rest spell xs) (used x) (rest_used xs))

  list_used : (x : T) (xs : List T) (ending : Symbol) → IsUsed ending → AreUsed (spell x ++ (spell_rest spell xs ++ ending ∷ []))
  list_used x xs ending h = both (spell x) (spell_rest spell xs ++ ending ∷ []) (used x) (both (spell_rest spell xs) (ending ∷ []) (rest_used xs) (h, tt))

named_used : (m : Named) → AreUsed (spell_named m)
named_used (plain n) = (tt, tt)
named_used (closed n) = (tt, (tt, (tt, (tt, tt))))
named_used (inner n) = (tt, (tt, (tt, (tt, tt))))

atom_used : (a : Atom) → AreUsed (spell_atom a)
atom_used (truth true) = (tt, tt)
atom_used (truth false) = (tt, tt)
atom_used (relates c) = comparison_used c
atom_used (belongs m s ss) = both (spell_named m) (Open ∷ (spell_side s ++ (spell_rest spell_side ss ++ Close ∷ []))) (named_used m) (tt, list_used spell_side side_used s ss Close tt)

sort_used : (s : Sort) → AreUsed (sort_symbols s)
sort_used Rat = tt
sort_used Text = (tt, tt)

column_used : (c : Column) → AreUsed (spell_column c)
column_used c = (tt, sort_used c.sort)

heading_used : (h : Columns) → AreUsed (spell_heading h)
heading_used h = (tt, list_used spell_column column_used h.first h.rest Close tt)

quantifier_used : (q : Quantifier) → IsUsed (quantifier_symbol q)
quantifier_used Exists = tt
quantifier_used Forall = tt

terminal_used : (value : Reader) (ts : List Symbol) (p : TerminalForm) → IsTerminal value ts p → AreUsed ts
terminal_used value ts nay e = subst AreUsed (sym e) (tt, tt)
terminal_used value ts conjunct e = subst AreUsed (sym e) (tt, tt)
terminal_used value ts disjunct e = subst AreUsed (sym e) (tt, tt)
terminal_used value ts arrow e = subst AreUsed (sym e) (tt, tt)
terminal_used value ts opening e = subst AreUsed (sym e) (tt, tt)
terminal_used value ts closing e = subst AreUsed (sym e) (tt, tt)
terminal_used value ts (binder q c) e = subst AreUsed (sym e) (quantifier_used q, column_used c)
terminal_used value ts (leaf f) h = subst AreUsed (sym h.1) (atom_used h.0)

terminals_used : (value : Reader) (ts : List Symbol) (ps : List TerminalForm) → AreTerminals value ts ps → AreUsed ts
terminals_used value ts [] e = subst AreUsed (sym e) tt
terminals_used value ts (p ∷ ps) h = subst AreUsed (sym h.2) (both h.0 h.1 (terminal_used value h.0 p h.3) (terminals_used value h.1 ps h.4))

integers_used : (is : List Integer) → AreUsed (spell_integers is)
integers_used [] = tt
integers_used ((true, d) ∷ is) = (tt, (tt, integers_used is))
integers_used ((false, d) ∷ is) = (tt, integers_used is)

proof_used : (p : ProofTree) → AreUsed (spell_proof p)
proof_used by_text = (tt, tt)
proof_used (by_rows is) = (tt, integers_used is)

entry_used : (e : EntryTree) → AreUsed (spell_entry e)
entry_used e = (tt, (tt, proof_used e.proof))

plain_used : (p : Plain) → AreUsed (spell_plain p)
plain_used (opens d two) = (tt, (tt, tt))
plain_used (defines n h) = (tt, (tt, heading_used h))
plain_used (inserts_none n) = (tt, (tt, (tt, (tt, tt))))
plain_used (inserts n c cs) = (tt, (tt, (tt, list_used spell_comparison comparison_used c cs CloseBrace tt)))
plain_used (deletes n d) = (tt, (tt, (tt, tt)))
plain_used (drops n) = (tt, (tt, tt))
plain_used (keeps n) = (tt, (tt, tt))
plain_used (shows n) = (tt, (tt, tt))
plain_used (boxes n) = (tt, (tt, tt))
plain_used dumps = (tt, tt)
plain_used (certifies n m) = (tt, (tt, (tt, tt)))
plain_used (verifies_none n m) = (tt, (tt, (tt, (tt, (tt, tt)))))
plain_used (verifies n m e es) = (tt, (tt, (tt, (tt, list_used spell_entry entry_used e es CloseBrace tt))))

prefix_used : (p : Prefix) → AreUsed (spell_prefix p)
prefix_used (views n h) = (tt, (tt, both (spell_heading h) (Define ∷ []) (heading_used h) (tt, tt)))
prefix_used asks = (tt, tt)
prefix_used (queries h) = (tt, both (spell_heading h) (Colon ∷ []) (heading_used h) (tt, tt))
prefix_used (explains h) = (tt, both (spell_heading h) (Colon ∷ []) (heading_used h) (tt, tt))

pub command_used : (value : Reader) (ts : List Symbol) (c : CommandForm) (depth : ℕ) → SpellsCommand value ts c depth → AreUsed ts
command_used value ts c depth (inl s) = subst AreUsed (sym s.spelled) (plain_used s.plain)
command_used value ts c depth (inr s) = subst AreUsed (sym s.spelled) (both (spell_prefix s.before) s.rest (prefix_used s.before) (terminals_used value s.rest s.spells.terminals s.spells.are))

-- ---- what the plain language doesn't have

-- one more choice
other : (s k : List ℕ) (t rest : Symbol) → is_dedale t ≡ false → is_dedale rest ≡ false → is_dedale (if bytes_eq s k then t else rest) ≡ false
other s k t rest e f = either (bytes_eq s k)
  where
    either : (b : Bool) → is_dedale (if b then t else rest) ≡ false
    either true = e
    either false = f

unused_other : (s : List ℕ) → is_dedale (unused_word (Name s) s) ≡ false
unused_other s = either (is_unused s)
  where
    either : (b : Bool) → is_dedale (if b then Word words.Unused else Name s) ≡ false
    either true = refl
    either false = refl

word_other : (s : List ℕ) → is_dedale (word_symbol One s) ≡ false
word_other s =
    other s (codes "and") (Word words.And) _ refl
    (other s (codes "or") (Word words.Or) _ refl
    (other s (codes "not") (Word words.Not) _ refl
    (other s (codes "implies") (Word words.Implies) _ refl
    (other s (codes "exists") (Word words.Exists) _ refl
    (other s (codes "forall") (Word words.Forall) _ refl
    (other s (codes "true") (Word words.True) _ refl
    (other s (codes "false") (Word words.False) _ refl
    (other s (codes "closure") (Word words.Closure) _ refl
    (other s (codes "interior") (Word words.Interior) _ refl
    (other s (codes "text") (Word words.Text) _ refl
    (other s (codes "relation") (Word words.Relation) _ refl
    (other s (codes "insert") (Word words.Insert) _ refl
    (other s (codes "delete") (Word words.Delete) _ refl
    (other s (codes "drop") (Word words.Drop) _ refl
    (other s (codes "view") (Word words.View) _ refl
    (other s (codes "keep") (Word words.Keep) _ refl
    (other s (codes "ask") (Word words.Ask) _ refl
    (other s (codes "query") (Word words.Query) _ refl
    (other s (codes "show") (Word words.Show) _ refl
    (other s (codes "box") (Word words.BoxOf) _ refl
    (other s (codes "explain") (Word words.Explain) _ refl
    (other s (codes "disjoint") (Word words.Disjoint) _ refl
    (other s (codes "verify") (Word words.Verify) _ refl
    (other s (codes "dedale") (dedale_symbol One) _ refl
    (other s (codes "dump") (dump_symbol One) _ refl (unused_other s))))))))))))))))))))))))))

sign_other : (s : List ℕ) → is_dedale (sign_symbol One s) ≡ false
sign_other s =
    other s (codes "+") Plus _ refl
    (other s (codes "-") Minus _ refl
    (other s (codes "*") Times _ refl
    (other s (codes "<") (Relation op.Less) _ refl
    (other s (codes "<=") (Relation op.LessEq) _ refl
    (other s (codes "=") (Relation op.Equal) _ refl
    (other s (codes "!=") (Relation op.NotEqual) _ refl
    (other s (codes ">=") (Relation op.GreaterEq) _ refl
    (other s (codes ">") (Relation op.Greater) _ refl
    (other s (codes "/") (slash_symbol One) _ refl
    (other s (codes "(") Open _ refl
    (other s (codes ")") Close _ refl
    (other s (codes "{") OpenBrace _ refl
    (other s (codes "}") CloseBrace _ refl
    (other s (codes ",") Comma _ refl
    (other s (codes ":") Colon _ refl
    (other s (codes ":=") Define _ refl refl))))))))))))))))

pub no_dedale : (t : Lexeme) → is_dedale (symbol One t) ≡ false
no_dedale (lexeme.Word w) = word_other w
no_dedale (lexeme.Number ds) = refl
no_dedale (lexeme.Decimal bs) = refl
no_dedale (lexeme.Quoted t) = refl
no_dedale (lexeme.Sign s) = sign_other s
