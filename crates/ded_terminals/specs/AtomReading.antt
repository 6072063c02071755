-- Reading comparisons, members, columns and terminals, as functions on symbols.
use Rattle.std.specs.Prelude.{ℕ, suc, Bool, true, false, List, [], ◌∷◌, length, Option, Some, None, if◌then◌else◌}
use Rattle.std.proofs.Common.{zero}
use Rattle.ded_model.specs.declared.formula.Operand.{Operand}
use Rattle.ded_model.specs.declared.formula.CompareOp.{CompareOp}
use Rattle.ded_model.specs.declared.name.Column.{Column}
use Rattle.ded_model.specs.declared.slot.Sort.{Sort}
use Rattle.ded_model.specs.declared.slot.Sort.TheVariants.{Rat, Text}
use Rattle.ded_model.specs.Form.{Form, member}
use Rattle.ded_model.specs.Logic.{atom, always, never}
use Rattle.ded_grammar.specs.declared.terminal.Quantifier.{Quantifier}
use Rattle.ded_grammar.specs.declared.terminal.Quantifier.TheVariants.{Exists, Forall}
use Rattle.ded_grammar.specs.Trees.{TerminalForm, nay, conjunct, disjunct, arrow, opening, closing, binder, leaf}
use Rattle.ded_grammar.specs.Building.{◌>>=◌}
use Rattle.ded_terminals.specs.declared.item.Keyword.{Keyword}
use Rattle.ded_terminals.specs.declared.item.Keyword.TheVariants as words
use Rattle.ded_terminals.specs.Symbols.{Symbol, Word, Name, Open, Close, CloseBrace, Comma, Relation}
use Rattle.ded_terminals.specs.Literals.{Reader}
use Rattle.ded_terminals.specs.Operands.{argument_of}
use Rattle.ded_terminals.specs.Atoms.{compared, Named, plain, closed, inner, name_of}
use Rattle.ded_terminals.specs.OperandReading.{name_at, side_at}

-- ---- lists

-- what stands behind an item of a list in parentheses: true where another one is to come
abbrev pub comma_at : List Symbol → Option (Bool × List Symbol)
comma_at (Comma ∷ ts) = Some (true, ts)
comma_at (Close ∷ ts) = Some (false, ts)
comma_at ts = None

-- the same in braces
abbrev pub brace_at : List Symbol → Option (Bool × List Symbol)
brace_at (Comma ∷ ts) = Some (true, ts)
brace_at (CloseBrace ∷ ts) = Some (false, ts)
brace_at ts = None

-- behind an item of a list
abbrev pub behind_item : {A : Type 0} → (List Symbol → Option (List A × List Symbol)) → A → Bool × List Symbol → Option (List A × List Symbol)
behind_item more x (false, ts) = Some (x ∷ [], ts)
behind_item more x (true, ts) = more ts >>= λ y. Some (x ∷ y.0, y.1)

-- up to so many items, and the closing sign
abbrev pub list_at : {A : Type 0} → (List Symbol → Option (A × List Symbol)) → (List Symbol → Option (Bool × List Symbol)) → ℕ → List Symbol → Option (List A × List Symbol)
list_at read ends zero ts = None
list_at read ends (suc k) ts = read ts >>= λ x. ends x.1 >>= behind_item (list_at read ends k) x.0

-- ---- comparisons and members

-- reads the sign of a comparison
abbrev pub relation_at : List Symbol → Option (CompareOp × List Symbol)
relation_at (Relation op ∷ ts) = Some (op, ts)
relation_at ts = None

-- reads a comparison, as a formula
abbrev pub compare_at : Reader → List Symbol → Option (Form × List Symbol)
compare_at value ts = side_at value.number ts >>= λ l. relation_at l.1 >>= λ o. side_at value.number o.1 >>= λ r. Some (compared value l.0 o.0 r.0, r.1)

-- reads an operand of a member
abbrev pub argument_at : Reader → List Symbol → Option (Operand × List Symbol)
argument_at value ts = side_at value.number ts >>= λ s. Some (argument_of value s.0, s.1)

-- reads the operands of a member, of which there is one at least, and the closing parenthesis
abbrev pub operands_at : Reader → List Symbol → Option (List Operand × List Symbol)
operands_at value ts = list_at (argument_at value) comma_at (length ts) ts

-- a name in parentheses
abbrev pub enclosed_at : List Symbol → Option (List ℕ × List Symbol)
enclosed_at (Open ∷ Name n ∷ Close ∷ ts) = Some (n, ts)
enclosed_at ts = None

-- the name of a member
abbrev pub named_at : List Symbol → Option (Named × List Symbol)
named_at (Name n ∷ ts) = Some (plain n, ts)
named_at (Word words.Closure ∷ ts) = enclosed_at ts >>= λ n. Some (closed n.0, n.1)
named_at (Word words.Interior ∷ ts) = enclosed_at ts >>= λ n. Some (inner n.0, n.1)
named_at ts = None

-- the name of a member and a parenthesis
abbrev pub call_at : Named × List Symbol → Option (Named × List Symbol)
call_at (m, Open ∷ ts) = Some (m, ts)
call_at (m, ts) = None

-- reads the name of a member and the opening parenthesis behind it
abbrev pub called_at : List Symbol → Option (Named × List Symbol)
called_at ts = named_at ts >>= call_at

-- reads the operands of the member whose name and parenthesis were read, or a comparison where there is no member
abbrev pub atom_by_call : Reader → List Symbol → Option (Named × List Symbol) → Option (Form × List Symbol)
atom_by_call value ts None = compare_at value ts
atom_by_call value ts (Some m) = operands_at value m.1 >>= λ x. Some (atom (member (name_of m.0) x.0), x.1)

-- reads a member or a comparison, as a formula
abbrev pub atom_at : Reader → List Symbol → Option (Form × List Symbol)
atom_at value ts = atom_by_call value ts (called_at ts)

-- ---- columns

-- the sort of a column, by the symbols behind its name: that of texts where `text` stands there, else that of numbers
abbrev pub sort_at : List Symbol → Sort × List Symbol
sort_at (Word words.Text ∷ ts) = (Text, ts)
sort_at ts = (Rat, ts)

-- reads a column: its name and its sort
abbrev pub column_at : List Symbol → Option (Column × List Symbol)
column_at ts = name_at ts >>= λ n. Some (record { name = n.0; sort = (sort_at n.1).0 }, (sort_at n.1).1)

-- ---- terminals

-- reads the column of a quantifier, as the terminal of both
abbrev pub binder_at : Quantifier → List Symbol → Option (TerminalForm × List Symbol)
binder_at q ts = column_at ts >>= λ x. Some (binder q x.0, x.1)

-- the words that are terminals by themselves
abbrev pub word_terminal : Keyword → Option TerminalForm
word_terminal words.Not = Some nay
word_terminal words.And = Some conjunct
word_terminal words.Or = Some disjunct
word_terminal words.Implies = Some arrow
word_terminal words.True = Some (leaf always)
word_terminal words.False = Some (leaf never)
word_terminal w = None

-- the quantifier that the word is, or none where it is another word
abbrev pub quantifier_of : Keyword → Option Quantifier
quantifier_of words.Exists = Some Exists
quantifier_of words.Forall = Some Forall
quantifier_of w = None

-- reads the column of a quantifier; none where there is no quantifier
abbrev pub terminal_by_quantifier : List Symbol → Option Quantifier → Option (TerminalForm × List Symbol)
terminal_by_quantifier ts None = None
terminal_by_quantifier ts (Some q) = binder_at q ts

-- the terminal that the word is by itself; where it is none, reads the column of the quantifier that it is
abbrev pub terminal_by_word : Keyword → List Symbol → Option TerminalForm → Option (TerminalForm × List Symbol)
terminal_by_word w ts None = terminal_by_quantifier ts (quantifier_of w)
terminal_by_word w ts (Some p) = Some (p, ts)

-- reads the terminal that begins with the word, which stands before the symbols
abbrev pub word_at : Keyword → List Symbol → Option (TerminalForm × List Symbol)
word_at w ts = terminal_by_word w ts (word_terminal w)

-- the formula that was read, as a terminal
abbrev pub as_leaf : Option (Form × List Symbol) → Option (TerminalForm × List Symbol)
as_leaf o = o >>= λ x. Some (leaf x.0, x.1)

-- reads a reserved word
abbrev pub keyword_at : List Symbol → Option (Keyword × List Symbol)
keyword_at (Word w ∷ ts) = Some (w, ts)
keyword_at ts = None

-- reads a parenthesis, as a terminal
abbrev pub parenthesis_at : List Symbol → Option (TerminalForm × List Symbol)
parenthesis_at (Open ∷ ts) = Some (opening, ts)
parenthesis_at (Close ∷ ts) = Some (closing, ts)
parenthesis_at ts = None

-- the parenthesis that was read; where there is none, reads a member or a comparison
abbrev pub terminal_by_parenthesis : Reader → List Symbol → Option (TerminalForm × List Symbol) → Option (TerminalForm × List Symbol)
terminal_by_parenthesis value ts None = as_leaf (atom_at value ts)
terminal_by_parenthesis value ts (Some x) = Some x

-- the words with which the name of a member begins
abbrev pub begins_member : Keyword → Bool
begins_member words.Closure = true
begins_member words.Interior = true
begins_member w = false

-- reads the terminal that begins with the reserved word that was read, or where there is none a parenthesis, a member
-- or a comparison
abbrev pub terminal_by_keyword : Reader → List Symbol → Option (Keyword × List Symbol) → Option (TerminalForm × List Symbol)
terminal_by_keyword value ts None = terminal_by_parenthesis value ts (parenthesis_at ts)
terminal_by_keyword value ts (Some w) = if begins_member w.0 then as_leaf (atom_at value ts) else word_at w.0 w.1

-- reads a terminal
abbrev pub terminal_at : Reader → List Symbol → Option (TerminalForm × List Symbol)
terminal_at value ts = terminal_by_keyword value ts (keyword_at ts)

-- up to so many terminals, which are all there is
abbrev pub terminals_within : Reader → ℕ → List Symbol → Option (List TerminalForm)
terminals_within value k [] = Some []
terminals_within value zero (t ∷ ts) = None
terminals_within value (suc k) (t ∷ ts) = terminal_at value (t ∷ ts) >>= λ x. terminals_within value k x.1 >>= λ ps. Some (x.0 ∷ ps)

-- reads all symbols as terminals
abbrev pub terminals_at : Reader → List Symbol → Option (List TerminalForm)
terminals_at value ts = terminals_within value (length ts) ts
