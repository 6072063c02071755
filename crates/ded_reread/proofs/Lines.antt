-- The header, and the lines of relations and of their tuples.
use Rattle.std.proofs.Common.{◌≡◌, ◌≤◌, inl, ℕ, false, List, [], ◌∷◌, ◌++◌, refl, sym, ap, subst, arith}
use Rattle.std.specs.Prelude.{codes}
use Rattle.ded_lex.specs.Gaps.{Space}
use Rattle.ded_lex.specs.Lexemes.{Word, Number, word_byte}
use Rattle.ded_lex.specs.Pieces.{IsWhole}
use Rattle.ded_lex.specs.Tokens.{GapCell, LexemeCell, lexemes_of}
use Rattle.ded_model.specs.declared.command.Language.TheVariants.{Two}
use Rattle.ded_model.specs.declared.name.Column.{Column}
use Rattle.ded_model.specs.Command.{CommandForm, relation, insert}
use Rattle.ded_model.specs.Form.{FormAtom}
use Rattle.ded_model.specs.Known.{IsTupleOver, has_twice}
use Rattle.ded_model.specs.Logic.{AllAtomsOf, some_atom_of, Logics}
use Rattle.ded_model.specs.LongRows.{is_long_atom, has_long_row}
use Rattle.ded_model.specs.Plain.{IsPlainAtom}
use Rattle.ded_model.specs.Row.{Atom}
use Rattle.ded_model.specs.Width.{tuple_length}
use Rattle.ded_print.specs.Tuples.{column_names, tuple_text}
use Rattle.ded_dump.specs.Headings.{heading_text}
use Rattle.ded_terminals.specs.declared.item.Keyword.TheVariants as words
use Rattle.ded_terminals.specs.Symbols.{Symbol, Name, word_symbol}
use Rattle.ded_terminals.specs.Symbols as symbols
use Rattle.ded_terminals.specs.Literals.{Reader, exact, marked}
use Rattle.ded_terminals.specs.Atoms.{Comparison}
use Rattle.ded_syntax.specs.Commands.{Plain, opens, defines, inserts_none, inserts, spell_plain, plain_form, spell_heading, SpellsCommand}
use Rattle.ded_syntax.specs.Marks.{has_mark}
use Rattle.ded_syntax.specs.Spelling.{IsHeader}
use Rattle.ded_reread.specs.Formulas.{restored_tuple}
use Rattle.ded_reread.specs.Words.{TupleHasTexts}
use Rattle.ded_reread.specs.Lines.{header_text, relation_text, insert_text, IsLine}
use Rattle.ded_reread.specs.ScriptWords.{IsName, IsMember, IsText, IsHeading}
use Rattle.ded_reread.proofs.TerminalsWords.{spaced}
use Rattle.ded_reread.proofs.TuplesRead.{AreMeant, spell_braces, tuple_worded}
use Rattle.ded_reread.proofs.ViewsAccepted.{is_read}
use Rattle.ded_reread.proofs.ViewsHeading.{worded_heading}
use Rattle.ded_reread.proofs.Tuples.{tuple_words}
use Rattle.ded_reread.proofs.Worded.{Worded, Fits, then_any, then_fitting, as_worded, blank, name, word, number, each_of, line_lexemes, line_whole}

-- ---- the header

pub header_spelled : IsHeader header_text
header_spelled = record {
  lexemes = Word (codes "dedale") ∷ Number (codes "2") ∷ [];
  are = record {
    cells = LexemeCell (Word (codes "dedale")) ∷ GapCell (Space 32) ∷ LexemeCell (Number (codes "2")) ∷ [];
    is = refl;
    each = ((refl, each_of word_byte (codes "dedale") refl, refl), (refl, ((refl, (refl, tt), tt), tt)));
    lexemes_are = refl;
  };
  command = inl (record { plain = opens (codes "2") refl; spelled = refl; means = refl; flat = refl });
}

header_worded : Worded header_text (word_symbol Two (codes "dedale") ∷ symbols.Number (codes "2") ∷ [])
header_worded =
    then_fitting (codes "dedale") (codes " 2") (word_symbol Two (codes "dedale") ∷ []) (symbols.Number (codes "2") ∷ []) (word (codes "dedale") refl (each_of word_byte (codes "dedale") refl) (omega arith)) refl
    (then_any Fits (codes " ") (codes "2") [] (symbols.Number (codes "2") ∷ []) blank (number (codes "2") refl (refl, tt) refl))

pub header_whole : (after : List ℕ) → IsWhole header_text (59 ∷ after)
header_whole after = record { parts = header_worded.parts; is = header_worded.spells; each = header_worded.whole (59 ∷ after) refl }

-- ---- commands without a formula

spelled_plain : (value : Reader) (p : Plain) (c : CommandForm) → c ≡ plain_form value p → SpellsCommand value (spell_plain p) c 0
spelled_plain value p c e = inl (record { plain = p; spelled = refl; means = e; flat = refl })

pub plain_line : (text : List ℕ) (p : Plain) (c : CommandForm) → Worded text (spell_plain p) → c ≡ plain_form exact p → c ≡ plain_form marked p → has_mark c ≡ false → has_long_row c ≡ false → IsLine text c
plain_line text p c w e m free short = record {
  read =
      is_read (10 ∷ text) (lexemes_of w.cells) (line_lexemes text (spell_plain p) w) c 0
      (subst (λ (ts : List Symbol). SpellsCommand exact ts c 0) (sym w.symbols_are) (spelled_plain exact p c e))
      (subst (λ (ts : List Symbol). SpellsCommand marked ts c 0) (sym w.symbols_are) (spelled_plain marked p c m))
      w.words w.numbers free short (omega arith);
  whole = line_whole text (spell_plain p) w;
}

-- ---- relations

pub relation_line : (n : List ℕ) (h : List Column) → IsName n → IsHeading h → IsLine (relation_text n h) (relation n h)
relation_line n h named headed =
    let k = worded_heading h headed in
    plain_line (relation_text n h) (defines n k.columns) (relation n h)
    (then_any Fits (codes "relation ") (n ++ heading_text h) (symbols.Word words.Relation ∷ []) (Name n ∷ spell_heading k.columns) (spaced (codes "relation") refl refl (omega arith))
    (then_fitting n (heading_text h) (Name n ∷ []) (spell_heading k.columns) (name n named) refl (as_worded (heading_text h) (spell_heading k.columns) k.worded)))
    (ap (relation n) (sym k.is)) (ap (relation n) (sym k.is)) refl refl

-- ---- tuples

insert_worded : (n t : List ℕ) (cs : List Comparison) → IsName n → Worded t (spell_braces cs) → Worded (codes "insert " ++ (n ++ (codes " " ++ t))) (symbols.Word words.Insert ∷ Name n ∷ spell_braces cs)
insert_worded n t cs named w =
    then_any Fits (codes "insert ") (n ++ (codes " " ++ t)) (symbols.Word words.Insert ∷ []) (Name n ∷ spell_braces cs) (spaced (codes "insert") refl refl (omega arith))
    (then_fitting n (codes " " ++ t) (Name n ∷ []) (spell_braces cs) (name n named) refl (then_any Fits (codes " ") t [] (spell_braces cs) blank w))

insert_by : (n t : List ℕ) (cs : List Comparison) (fs : Logics FormAtom) → IsName n → Worded t (spell_braces cs) → AreMeant cs fs → some_atom_of is_long_atom fs ≡ false → IsLine (codes "insert " ++ (n ++ (codes " " ++ t))) (insert n fs)
insert_by n t [] fs named w m short =
    plain_line (codes "insert " ++ (n ++ (codes " " ++ t))) (inserts_none n) (insert n fs) (insert_worded n t [] named w) (ap (insert n) (sym m.means)) (ap (insert n) (sym m.marking)) m.unmarked short
insert_by n t (c ∷ cs) fs named w m short =
    plain_line (codes "insert " ++ (n ++ (codes " " ++ t))) (inserts n c cs) (insert n fs) (insert_worded n t (c ∷ cs) named w) (ap (insert n) (sym m.means)) (ap (insert n) (sym m.marking)) m.unmarked short

-- where these hold of what is read back
pub insert_line : ((h : List Column) (t : List Atom) → has_twice h ≡ false → IsTupleOver h t → AllAtomsOf IsPlainAtom (restored_tuple h t))
    → ((h : List Column) (t : List Atom) → has_twice h ≡ false → IsTupleOver h t → tuple_length t ≤ 63 → some_atom_of is_long_atom (restored_tuple h t) ≡ false)
    → (n : List ℕ) (h : List Column) (t : List Atom) → IsName n → IsHeading h → has_twice h ≡ false → IsTupleOver h t → tuple_length t ≤ 63 → TupleHasTexts IsText t
    → IsLine (insert_text n h t) (insert n (restored_tuple h t))
insert_line plain short n h t named headed once over few texts =
    let low = short h t once over few in
    let w = tuple_worded (column_names h) t over.normal (tuple_words h once IsName IsMember IsText t headed.named texts over) (plain h t once over) low in
    insert_by n (tuple_text (column_names h) t) w.comparisons (restored_tuple h t) named w.worded w.meant low
