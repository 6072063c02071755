-- What is spelled in language 2 without its own words and signs is spelled in each language.
use Rattle.std.proofs.Common.{◌≡◌, Bool, true, false, ℕ, List, [], ◌∷◌, ◌++◌, map, refl, ap₂, bytes_eq}
use Rattle.std.specs.Prelude.{if◌then◌else◌, codes}
use Rattle.std.specs.List.{AllByRecursion, list_any}
use Rattle.std.proofs.lemmas.Bool.{or_parts, or_from}
use Rattle.ded_lex.specs.Lexemes.{Lexeme}
use Rattle.ded_lex.specs.Lexemes as lexeme
use Rattle.ded_model.specs.declared.certificate.Entry.{Entry}
use Rattle.ded_model.specs.declared.command.Language.{Language}
use Rattle.ded_model.specs.declared.command.Language.TheVariants.{Opening, One, Two}
use Rattle.ded_model.specs.declared.formula.CompareOp.TheVariants as op
use Rattle.ded_terminals.specs.declared.item.Keyword.{Keyword}
use Rattle.ded_terminals.specs.declared.item.Keyword.TheVariants as words
use Rattle.ded_terminals.specs.Symbols.{Symbol, Word, Name, Decimal, Plus, Minus, Times, Slash, CloseBrace, Relation, formula_word, command_word, unused_word, dedale_symbol, dump_symbol, language_word, word_symbol, sum_sign, other_sign, slash_symbol, symbol}
use Rattle.ded_terminals.specs.Atoms.{spell_rest}
use Rattle.ded_syntax.specs.Certificates.{Integer, spell_integers, ProofTree, by_text, by_rows, spell_proof, EntryTree, spell_entry}
use Rattle.ded_syntax.specs.Commands.{spell_plain}
use Rattle.ded_syntax.specs.Spelling.{is_long_number}
use Rattle.ded_runs.proofs.Trees.{entry_tree, verify_tree}

-- ---- symbols that each language has

abbrev pub IsShared : Symbol → Type 0
IsShared (Word words.Unused) = ⊥
IsShared (Word words.Dump) = ⊥
IsShared (Word _) = Unit {0}
IsShared (Decimal bs) = ⊥
IsShared Slash = ⊥
IsShared _ = Unit {0}

abbrev pub AreShared : List Symbol → Type 0
AreShared = AllByRecursion IsShared

-- where the second is shared, the first is it
record Alike (a b : Symbol) : Type 0 where
  same : IsShared b → a ≡ b

equal : (a : Symbol) → Alike a a
equal a = record { same = λ s. refl }

choice : (t : Bool) (s a b : Symbol) → Alike a b → Alike (if t then s else a) (if t then s else b)
choice true s a b h = equal s
choice false s a b h = h

reserved : (w k : List ℕ) (kw : Keyword) (a b : Symbol) → Alike a b → Alike (if bytes_eq w k then Word kw else a) (if bytes_eq w k then Word kw else b)
reserved w k kw a b h = choice (bytes_eq w k) (Word kw) a b h

sign : (w k : List ℕ) (s a b : Symbol) → Alike a b → Alike (if bytes_eq w k then s else a) (if bytes_eq w k then s else b)
sign w k s a b h = choice (bytes_eq w k) s a b h

-- a word or a sign of one language
special : (w k : List ℕ) (s t a b : Symbol) → Alike s t → Alike a b → Alike (if bytes_eq w k then s else a) (if bytes_eq w k then t else b)
special w k s t a b h i = either (bytes_eq w k)
  where
    either : (x : Bool) → Alike (if x then s else a) (if x then t else b)
    either true = h
    either false = i

formula_alike : (w : List ℕ) (a b : Symbol) → Alike a b → Alike (formula_word a w) (formula_word b w)
formula_alike w a b h =
    reserved w (codes "and") words.And _ _
    (reserved w (codes "or") words.Or _ _
    (reserved w (codes "not") words.Not _ _
    (reserved w (codes "implies") words.Implies _ _
    (reserved w (codes "exists") words.Exists _ _
    (reserved w (codes "forall") words.Forall _ _
    (reserved w (codes "true") words.True _ _
    (reserved w (codes "false") words.False _ _
    (reserved w (codes "closure") words.Closure _ _
    (reserved w (codes "interior") words.Interior _ _
    (reserved w (codes "text") words.Text _ _ h))))))))))

command_alike : (w : List ℕ) (a b : Symbol) → Alike a b → Alike (command_word a w) (command_word b w)
command_alike w a b h =
    reserved w (codes "relation") words.Relation _ _
    (reserved w (codes "insert") words.Insert _ _
    (reserved w (codes "delete") words.Delete _ _
    (reserved w (codes "drop") words.Drop _ _
    (reserved w (codes "view") words.View _ _
    (reserved w (codes "keep") words.Keep _ _
    (reserved w (codes "ask") words.Ask _ _
    (reserved w (codes "query") words.Query _ _
    (reserved w (codes "show") words.Show _ _
    (reserved w (codes "box") words.BoxOf _ _
    (reserved w (codes "explain") words.Explain _ _
    (reserved w (codes "disjoint") words.Disjoint _ _
    (reserved w (codes "verify") words.Verify _ _ h))))))))))))

dedale_alike : (language : Language) → Alike (dedale_symbol language) (dedale_symbol Two)
dedale_alike language = record { same = λ s. absurd s }

dump_alike : (language : Language) → Alike (dump_symbol language) (dump_symbol Two)
dump_alike language = record { same = λ s. absurd s }

slash_alike : (language : Language) → Alike (slash_symbol language) (slash_symbol Two)
slash_alike language = record { same = λ s. absurd s }

word_alike : (language : Language) (w : List ℕ) → Alike (word_symbol language w) (word_symbol Two w)
word_alike language w =
    formula_alike w _ _ (command_alike w (language_word language (unused_word (Name w) w) w) (language_word Two (unused_word (Name w) w) w)
    (special w (codes "dedale") (dedale_symbol language) (dedale_symbol Two) _ _ (dedale_alike language)
    (special w (codes "dump") (dump_symbol language) (dump_symbol Two) _ _ (dump_alike language) (equal (unused_word (Name w) w)))))

sum_alike : (s : List ℕ) (a b : Symbol) → Alike a b → Alike (sum_sign a s) (sum_sign b s)
sum_alike s a b h =
    sign s (codes "+") Plus _ _
    (sign s (codes "-") Minus _ _
    (sign s (codes "*") Times _ _
    (sign s (codes "<") (Relation op.Less) _ _
    (sign s (codes "<=") (Relation op.LessEq) _ _
    (sign s (codes "=") (Relation op.Equal) _ _
    (sign s (codes "!=") (Relation op.NotEqual) _ _
    (sign s (codes ">=") (Relation op.GreaterEq) _ _
    (sign s (codes ">") (Relation op.Greater) _ _ h))))))))

symbol_alike : (language : Language) (l : Lexeme) → Alike (symbol language l) (symbol Two l)
symbol_alike language (lexeme.Word w) = word_alike language w
symbol_alike language (lexeme.Number ds) = equal (symbol Two (lexeme.Number ds))
symbol_alike language (lexeme.Decimal bs) = record { same = λ s. absurd s }
symbol_alike language (lexeme.Quoted t) = equal (symbol Two (lexeme.Quoted t))
symbol_alike language (lexeme.Sign s) =
    sum_alike s _ _ (special s (codes "/") (slash_symbol language) (slash_symbol Two) (other_sign s) (other_sign s) (slash_alike language) (equal (other_sign s)))

pub same_symbols : (language : Language) (ls : List Lexeme) → AreShared (map (symbol Two) ls) → map (symbol language) ls ≡ map (symbol Two) ls
same_symbols language [] h = refl
same_symbols language (l ∷ ls) h = ap₂ (λ (t : Symbol) (ts : List Symbol). t ∷ ts) ((symbol_alike language l).same h.0) (same_symbols language ls h.1)

-- ---- numbers that aren't long

number_short : (language : Language) (l : Lexeme) → is_long_number Two l ≡ false → is_long_number language l ≡ false
number_short language (lexeme.Word w) h = refl
number_short language (lexeme.Number ds) h = h
number_short Opening (lexeme.Decimal bs) h = refl
number_short One (lexeme.Decimal bs) h = refl
number_short Two (lexeme.Decimal bs) h = h
number_short language (lexeme.Quoted t) h = refl
number_short language (lexeme.Sign s) h = refl

pub numbers_short : (language : Language) (ls : List Lexeme) → list_any (is_long_number Two) ls ≡ false → list_any (is_long_number language) ls ≡ false
numbers_short language [] h = refl
numbers_short language (l ∷ ls) h =
    let both = or_parts (is_long_number Two l) (list_any (is_long_number Two) ls) h in
    or_from (is_long_number language l) (list_any (is_long_number language) ls) (number_short language l both.0) (numbers_short language ls both.1)

-- ---- the symbols of `verify`

both_shared : (ts us : List Symbol) → AreShared ts → AreShared us → AreShared (ts ++ us)
both_shared [] us h k = k
both_shared (t ∷ ts) us h k = (h.0, both_shared ts us h.1 k)

integers_shared : (is : List Integer) → AreShared (spell_integers is)
integers_shared [] = tt
integers_shared ((true, d) ∷ is) = (tt, (tt, integers_shared is))
integers_shared ((false, d) ∷ is) = (tt, integers_shared is)

proof_shared : (p : ProofTree) → AreShared (spell_proof p)
proof_shared by_text = (tt, tt)
proof_shared (by_rows is) = (tt, integers_shared is)

entry_shared : (e : EntryTree) → AreShared (spell_entry e)
entry_shared e = (tt, (tt, proof_shared e.proof))

rest_shared : (es : List EntryTree) → AreShared (spell_rest spell_entry es)
rest_shared [] = tt
rest_shared (e ∷ es) = (tt, both_shared (spell_entry e) (spell_rest spell_entry es) (entry_shared e) (rest_shared es))

pub verify_shared : (n m : List ℕ) (es : List Entry) → AreShared (spell_plain (verify_tree n m es))
verify_shared n m [] = (tt, (tt, (tt, (tt, (tt, tt)))))
verify_shared n m (e ∷ es) = (
  tt,
  (
    tt,
    (
      tt,
      (
        tt,
        both_shared (spell_entry (entry_tree e)) (spell_rest spell_entry (map entry_tree es) ++ CloseBrace ∷ []) (entry_shared (entry_tree e))
            (both_shared (spell_rest spell_entry (map entry_tree es)) (CloseBrace ∷ []) (rest_shared (map entry_tree es)) (tt, tt)),
      ),
    ),
  ),
)
