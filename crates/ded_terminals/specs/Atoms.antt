-- The grammar of comparisons, members, headings and formulas.
use Rattle.std.specs.Prelude.{◌≡◌, ℕ, Bool, true, false, List, [], ◌∷◌, ◌++◌, map}
use Rattle.ded_model.specs.declared.formula.CompareOp.{CompareOp}
use Rattle.ded_model.specs.declared.formula.Operand.{Operand}
use Rattle.ded_model.specs.declared.name.Column.{Column}
use Rattle.ded_model.specs.declared.slot.Sort.{Sort}
use Rattle.ded_model.specs.declared.slot.Sort.TheVariants.{Rat, Text}
use Rattle.ded_model.specs.Form.{Form, compare, member}
use Rattle.ded_model.specs.Logic.{atom, always, never}
use Rattle.ded_model.specs.Made.{closure_name, interior_name}
use Rattle.ded_grammar.specs.declared.terminal.Quantifier.{Quantifier}
use Rattle.ded_grammar.specs.declared.terminal.Quantifier.TheVariants.{Exists, Forall}
use Rattle.ded_grammar.specs.Trees.{TerminalForm, nay, conjunct, disjunct, arrow, opening, closing, binder, leaf}
use Rattle.ded_grammar.specs.Spelling.{Spells}
use Rattle.ded_terminals.specs.declared.item.Keyword.TheVariants as words
use Rattle.ded_terminals.specs.Symbols.{Symbol, Word, Name, Open, Close, Comma, Relation}
use Rattle.ded_terminals.specs.Literals.{Reader}
use Rattle.ded_terminals.specs.Operands.{ParsedSide, spell_side, Reading, reading_of, operand_over, denominator_of, argument_of}

-- ---- lists

-- ( "," item )*
abbrev pub spell_rest : {T : Type 0} → (T → List Symbol) → List T → List Symbol
spell_rest spell [] = []
spell_rest spell (x ∷ xs) = Comma ∷ spell x ++ spell_rest spell xs

-- ---- comparisons and members

-- compare = operand relop operand
pub record Comparison : Type 0 where
  pub left : ParsedSide
  pub op : CompareOp
  pub right : ParsedSide

-- the symbols of a comparison
abbrev pub spell_comparison : Comparison → List Symbol
spell_comparison c = spell_side c.left ++ Relation c.op ∷ spell_side c.right

-- what is read of both sides, compared
abbrev pub compared : Reader → Reading → CompareOp → Reading → Form
compared value l op r = atom (compare (operand_over value (denominator_of value l r) l) op (operand_over value (denominator_of value l r) r))

-- the formula of a comparison, whose sides are over one denominator
abbrev pub comparison_form : Reader → Comparison → Form
comparison_form value c = compared value (reading_of value.number c.left) c.op (reading_of value.number c.right)

-- the operand that a side is in a member
abbrev pub argument : Reader → ParsedSide → Operand
argument value s = argument_of value (reading_of value.number s)

-- the name of a member: that of a relation or view, or of its closure or its interior
-- named = name | ( "closure" | "interior" ) "(" name ")"
pub data Named : Type 0 where
  -- of the relation or view itself
  plain : List ℕ → Named
  -- of its closure
  closed : List ℕ → Named
  -- of its interior
  inner : List ℕ → Named

-- the symbols of the name of a member
abbrev pub spell_named : Named → List Symbol
spell_named (plain n) = Name n ∷ []
spell_named (closed n) = Word words.Closure ∷ Open ∷ Name n ∷ Close ∷ []
spell_named (inner n) = Word words.Interior ∷ Open ∷ Name n ∷ Close ∷ []

-- the name that is spelled
abbrev pub name_of : Named → List ℕ
name_of (plain n) = n
name_of (closed n) = closure_name n
name_of (inner n) = interior_name n

-- unit = .. "true" | "false" | compare | member
-- member = named "(" operand ( "," operand )* ")"
pub data Atom : Type 0 where
  truth : Bool → Atom
  relates : Comparison → Atom
  belongs : Named → ParsedSide → List ParsedSide → Atom

-- the symbols of an atom
abbrev pub spell_atom : Atom → List Symbol
spell_atom (truth true) = Word words.True ∷ []
spell_atom (truth false) = Word words.False ∷ []
spell_atom (relates c) = spell_comparison c
spell_atom (belongs m s ss) = spell_named m ++ (Open ∷ spell_side s ++ (spell_rest spell_side ss ++ Close ∷ []))

-- the formula of an atom
abbrev pub atom_form : Reader → Atom → Form
atom_form value (truth true) = always
atom_form value (truth false) = never
atom_form value (relates c) = comparison_form value c
atom_form value (belongs m s ss) = atom (member (name_of m) (argument value s ∷ map (argument value) ss))

-- ---- columns

-- the symbols of a sort behind the name of a column: none for numbers, and `text` for texts
abbrev pub sort_symbols : Sort → List Symbol
sort_symbols Rat = []
sort_symbols Text = Word words.Text ∷ []

-- column = name [ "text" ]
abbrev pub spell_column : Column → List Symbol
spell_column c = Name c.name ∷ sort_symbols c.sort

-- ---- formulas, by their terminals

-- the word of a quantifier
abbrev pub quantifier_symbol : Quantifier → Symbol
quantifier_symbol Exists = Word words.Exists
quantifier_symbol Forall = Word words.Forall

-- these symbols spell the terminal
abbrev pub IsTerminal : Reader → List Symbol → TerminalForm → Type 0
IsTerminal value ts nay = ts ≡ Word words.Not ∷ []
IsTerminal value ts conjunct = ts ≡ Word words.And ∷ []
IsTerminal value ts disjunct = ts ≡ Word words.Or ∷ []
IsTerminal value ts arrow = ts ≡ Word words.Implies ∷ []
IsTerminal value ts opening = ts ≡ Open ∷ []
IsTerminal value ts closing = ts ≡ Close ∷ []
IsTerminal value ts (binder q c) = ts ≡ quantifier_symbol q ∷ spell_column c
IsTerminal value ts (leaf f) = (a : Atom) × (ts ≡ spell_atom a) × (atom_form value a ≡ f)

-- the terminals, one after the other
abbrev pub AreTerminals : Reader → List Symbol → List TerminalForm → Type 0
AreTerminals value ts [] = ts ≡ []
AreTerminals value ts (p ∷ ps) = (front : List Symbol) × (rest : List Symbol) × (ts ≡ front ++ rest) × IsTerminal value front p × AreTerminals value rest ps

-- the symbols spell the formula, with this nesting
pub record SpellsFormula (value : Reader) (ts : List Symbol) (f : Form) (depth : ℕ) : Type 0 where
  pub terminals : List TerminalForm
  pub are : AreTerminals value ts terminals
  pub spells : Spells terminals f depth
