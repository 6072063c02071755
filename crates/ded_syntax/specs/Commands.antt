-- The grammar of commands.
use Rattle.std.specs.Prelude.{◌≡◌, ◌⊎◌, ℕ, ◌==◌, true, List, [], ◌∷◌, ◌++◌, map}
use Rattle.ded_model.specs.declared.name.Column.{Column}
use Rattle.ded_model.specs.Command.{CommandForm, header, relation, insert, delete, drop, view, keep, ask, query, show, box_of, explain, dump, disjoint, verify}
use Rattle.ded_model.specs.Form.{Form}
use Rattle.ded_model.specs.Logic.{logics}
use Rattle.ded_terminals.specs.declared.item.Keyword.TheVariants as words
use Rattle.ded_terminals.specs.Symbols.{Symbol, number_of, Word, Name, Number, Open, Close, OpenBrace, CloseBrace, Colon, Define}
use Rattle.ded_terminals.specs.Literals.{Reader}
use Rattle.ded_terminals.specs.Atoms.{spell_rest, Comparison, spell_comparison, comparison_form, spell_column, SpellsFormula}
use Rattle.ded_syntax.specs.Certificates.{EntryTree, spell_entry, entry_of}

-- heading = "(" column ( "," column )* ")"
pub record Columns : Type 0 where
  pub first : Column
  pub rest : List Column

-- the symbols of a heading
abbrev pub spell_heading : Columns → List Symbol
spell_heading h = Open ∷ spell_column h.first ++ (spell_rest spell_column h.rest ++ Close ∷ [])

-- the columns of a heading, in order
abbrev pub heading : Columns → List Column
heading h = h.first ∷ h.rest

-- a command without a formula
-- command = "dedale" number
--   | "relation" name heading
--   | "insert" name "{" [ compare ( "," compare )* ] "}"
--   | "delete" name number
--   | "drop" name | "keep" name | "show" name | "box" name
--   | "dump"
--   | "disjoint" name name
--   | "verify" name name "{" [ entry ( "," entry )* ] "}"
-- The number of the header is 2.
pub data Plain : Type 0 where
  opens : (d : List ℕ) → (number_of d == 2) ≡ true → Plain
  defines : List ℕ → Columns → Plain
  inserts_none : List ℕ → Plain
  inserts : List ℕ → Comparison → List Comparison → Plain
  deletes : List ℕ → List ℕ → Plain
  drops : List ℕ → Plain
  keeps : List ℕ → Plain
  shows : List ℕ → Plain
  boxes : List ℕ → Plain
  dumps : Plain
  certifies : List ℕ → List ℕ → Plain
  verifies_none : List ℕ → List ℕ → Plain
  verifies : List ℕ → List ℕ → EntryTree → List EntryTree → Plain

-- the symbols of a command without a formula
abbrev pub spell_plain : Plain → List Symbol
spell_plain (opens d two) = Word words.Dedale ∷ Number d ∷ []
spell_plain (defines n h) = Word words.Relation ∷ Name n ∷ spell_heading h
spell_plain (inserts_none n) = Word words.Insert ∷ Name n ∷ OpenBrace ∷ CloseBrace ∷ []
spell_plain (inserts n c cs) = Word words.Insert ∷ Name n ∷ OpenBrace ∷ spell_comparison c ++ (spell_rest spell_comparison cs ++ CloseBrace ∷ [])
spell_plain (deletes n d) = Word words.Delete ∷ Name n ∷ Number d ∷ []
spell_plain (drops n) = Word words.Drop ∷ Name n ∷ []
spell_plain (keeps n) = Word words.Keep ∷ Name n ∷ []
spell_plain (shows n) = Word words.Show ∷ Name n ∷ []
spell_plain (boxes n) = Word words.BoxOf ∷ Name n ∷ []
spell_plain dumps = Word words.Dump ∷ []
spell_plain (certifies n m) = Word words.Disjoint ∷ Name n ∷ Name m ∷ []
spell_plain (verifies_none n m) = Word words.Verify ∷ Name n ∷ Name m ∷ OpenBrace ∷ CloseBrace ∷ []
spell_plain (verifies n m e es) = Word words.Verify ∷ Name n ∷ Name m ∷ OpenBrace ∷ spell_entry e ++ (spell_rest spell_entry es ++ CloseBrace ∷ [])

-- the command that is spelled
abbrev pub plain_form : Reader → Plain → CommandForm
plain_form value (opens d two) = header
plain_form value (defines n h) = relation n (heading h)
plain_form value (inserts_none n) = insert n (logics [])
plain_form value (inserts n c cs) = insert n (logics (comparison_form value c ∷ map (comparison_form value) cs))
plain_form value (deletes n d) = delete n (value.number (number_of d))
plain_form value (drops n) = drop n
plain_form value (keeps n) = keep n
plain_form value (shows n) = show n
plain_form value (boxes n) = box_of n
plain_form value dumps = dump
plain_form value (certifies n m) = disjoint n m
plain_form value (verifies_none n m) = verify n m []
plain_form value (verifies n m e es) = verify n m (entry_of value e ∷ map (entry_of value) es)

-- what stands before the formula of a command that has one
-- command = .. | "view" name heading ":=" formula
--   | "ask" formula
--   | "query" heading ":" formula
--   | "explain" heading ":" formula
pub data Prefix : Type 0 where
  views : List ℕ → Columns → Prefix
  asks : Prefix
  queries : Columns → Prefix
  explains : Columns → Prefix

-- the symbols of what stands before a formula
abbrev pub spell_prefix : Prefix → List Symbol
spell_prefix (views n h) = Word words.View ∷ Name n ∷ spell_heading h ++ Define ∷ []
spell_prefix asks = Word words.Ask ∷ []
spell_prefix (queries h) = Word words.Query ∷ spell_heading h ++ Colon ∷ []
spell_prefix (explains h) = Word words.Explain ∷ spell_heading h ++ Colon ∷ []

-- the command of a prefix and its formula
abbrev pub prefix_form : Prefix → Form → CommandForm
prefix_form (views n h) f = view n (heading h) f
prefix_form asks f = ask f
prefix_form (queries h) f = query (heading h) f
prefix_form (explains h) f = explain (heading h) f

-- the symbols spell the command, which has no formula and so the nesting 0
pub record SpellsPlain (value : Reader) (ts : List Symbol) (c : CommandForm) (depth : ℕ) : Type 0 where
  pub plain : Plain
  pub spelled : ts ≡ spell_plain plain
  pub means : c ≡ plain_form value plain
  pub flat : depth ≡ 0

-- the symbols spell the command, which has a formula with this nesting
pub record SpellsWithFormula (value : Reader) (ts : List Symbol) (c : CommandForm) (depth : ℕ) : Type 0 where
  pub before : Prefix
  pub rest : List Symbol
  pub spelled : ts ≡ spell_prefix before ++ rest
  pub formula : Form
  pub spells : SpellsFormula value rest formula depth
  pub means : c ≡ prefix_form before formula

-- the symbols spell the command, with this nesting, where numbers have these values
abbrev pub SpellsCommand : Reader → List Symbol → CommandForm → ℕ → Type 0
SpellsCommand value ts c depth = SpellsPlain value ts c depth ⊎ SpellsWithFormula value ts c depth
