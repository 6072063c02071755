-- Comparisons, members and columns: what is spelled is read.
use Rattle.std.proofs.Common.{◌≡◌, ℕ, true, false, List, [], ◌∷◌, ◌++◌, length, map, refl, ap, ◌∙◌, append_assoc}
use Rattle.std.specs.Prelude.{Option, Some}
use Rattle.ded_model.specs.declared.formula.CompareOp.{CompareOp}
use Rattle.ded_model.specs.declared.formula.Operand.{Operand}
use Rattle.ded_model.specs.declared.name.Column.{Column}
use Rattle.ded_model.specs.declared.slot.Sort.{Sort}
use Rattle.ded_model.specs.declared.slot.Sort.TheVariants as sorts
use Rattle.ded_model.specs.Form.{member}
use Rattle.ded_model.specs.Logic.{atom}
use Rattle.ded_grammar.specs.Trees.{leaf}
use Rattle.ded_grammar.specs.Building.{◌>>=◌}
use Rattle.ded_terminals.specs.Symbols.{Symbol, Name, Open, Close, CloseBrace, Comma, Relation}
use Rattle.ded_terminals.specs.Literals.{whole, quotient, decimal, Reader}
use Rattle.ded_terminals.specs.Operands.{scaled, constant, lone, ParsedSide, text, sum, spell_side, Reading, reading_of, argument_of}
use Rattle.ded_terminals.specs.Atoms.{compared, argument, spell_rest, Comparison, spell_comparison, comparison_form, Named, plain, closed, inner, spell_named, name_of, Atom, truth, relates, belongs, spell_atom, atom_form, spell_column}
use Rattle.ded_terminals.specs.OperandReading.{side_at}
use Rattle.ded_terminals.specs.AtomReading.{comma_at, brace_at, relation_at, compare_at, argument_at, operands_at, called_at, atom_by_call, atom_at, column_at, as_leaf, terminal_at}
use Rattle.ded_terminals.proofs.OperandsRead.{Stops, side_read}
use Rattle.ded_terminals.proofs.ListsRead.{ReadsItems, list_read, few_items, list_tail}

sides_read : (value : Reader) (l r : ParsedSide) (op : CompareOp) (rest : List Symbol) → Stops rest → compare_at value (spell_side l ++ (Relation op ∷ (spell_side r ++ rest))) ≡ Some (compared value (reading_of value.number l) op (reading_of value.number r), rest)
sides_read value l r op rest h =
    ap (λ (o : Option (Reading × List Symbol)). o >>= λ l. relation_at l.1 >>= λ o. side_at value.number o.1 >>= λ r. Some (compared value l.0 o.0 r.0, r.1)) (side_read value.number l (Relation op ∷ (spell_side r ++ rest)) tt)
    ∙ ap (λ (o : Option (Reading × List Symbol)). o >>= λ r. Some (compared value (reading_of value.number l) op r.0, r.1)) (side_read value.number r rest h)

spell_behind : (c : Comparison) (rest : List Symbol) → spell_comparison c ++ rest ≡ spell_side c.left ++ (Relation c.op ∷ (spell_side c.right ++ rest))
spell_behind c rest = append_assoc (spell_side c.left) (Relation c.op ∷ spell_side c.right) rest

pub comparison_read : (value : Reader) (c : Comparison) (rest : List Symbol) → Stops rest → compare_at value (spell_comparison c ++ rest) ≡ Some (comparison_form value c, rest)
comparison_read value c rest h = ap (compare_at value) (spell_behind c rest) ∙ sides_read value c.left c.right c.op rest h

-- ---- lists

abbrev as_argument : Reader → Option (Reading × List Symbol) → Option (Operand × List Symbol)
as_argument value o = o >>= λ s. Some (argument_of value s.0, s.1)

operands_listed : (value : Reader) → ReadsItems spell_side (argument value) (argument_at value) comma_at Close
operands_listed value = record {
  before_comma = λ s rest. ap (as_argument value) (side_read value.number s (Comma ∷ rest) tt);
  before_close = λ s rest. ap (as_argument value) (side_read value.number s (Close ∷ rest) tt);
  goes_on = λ rest. refl;
  stops = λ rest. refl;
}

pub comparisons_listed : (value : Reader) → ReadsItems spell_comparison (comparison_form value) (compare_at value) brace_at CloseBrace
comparisons_listed value = record {
  before_comma = λ c rest. comparison_read value c (Comma ∷ rest) tt;
  before_close = λ c rest. comparison_read value c (CloseBrace ∷ rest) tt;
  goes_on = λ rest. refl;
  stops = λ rest. refl;
}

column_before : (n : List ℕ) (s : Sort) (t : Symbol) (rest : List Symbol) → column_at (Name n ∷ t ∷ rest) ≡ Some (record { name = n; sort = sorts.Rat }, t ∷ rest) → column_at (spell_column (record { name = n; sort = s }) ++ (t ∷ rest)) ≡ Some (record { name = n; sort = s }, t ∷ rest)
column_before n sorts.Rat t rest e = e
column_before n sorts.Text t rest e = refl

pub columns_listed : ReadsItems spell_column (λ (c : Column). c) column_at comma_at Close
columns_listed = record {
  before_comma = λ c rest. column_before c.name c.sort Comma rest refl;
  before_close = λ c rest. column_before c.name c.sort Close rest refl;
  goes_on = λ rest. refl;
  stops = λ rest. refl;
}

pub operands_read : (value : Reader) (s : ParsedSide) (ss : List ParsedSide) (rest : List Symbol) → operands_at value (spell_side s ++ (spell_rest spell_side ss ++ (Close ∷ rest))) ≡ Some (argument value s ∷ map (argument value) ss, rest)
operands_read value s ss rest =
    list_read spell_side (argument value) (argument_at value) comma_at Close (operands_listed value) ss s rest
    (length (spell_side s ++ (spell_rest spell_side ss ++ (Close ∷ rest))))
    (few_items spell_side (argument value) (argument_at value) comma_at Close s ss rest)

-- ---- atoms

-- a comparison is read as a terminal, whatever its first symbol
begins : (value : Reader) (l : ParsedSide) (op : CompareOp) (ts : List Symbol) → terminal_at value (spell_side l ++ (Relation op ∷ ts)) ≡ as_leaf (compare_at value (spell_side l ++ (Relation op ∷ ts)))
begins value (text s) op ts = refl
begins value (sum true p ps) op ts = refl
begins value (sum false (scaled (whole d) n) ps) op ts = refl
begins value (sum false (scaled (quotient d e z) n) ps) op ts = refl
begins value (sum false (scaled (decimal t) n) ps) op ts = refl
begins value (sum false (constant (whole d)) ps) op ts = refl
begins value (sum false (constant (quotient d e z)) ps) op ts = refl
begins value (sum false (constant (decimal t)) ps) op ts = refl
begins value (sum false (lone n) []) op ts = refl
begins value (sum false (lone n) ((true, p) ∷ ps)) op ts = refl
begins value (sum false (lone n) ((false, p) ∷ ps)) op ts = refl

-- so is a member, whose name is read before its parenthesis
begins_named : (value : Reader) (m : Named) (ts : List Symbol) → terminal_at value (spell_named m ++ ts) ≡ as_leaf (atom_at value (spell_named m ++ ts))
begins_named value (plain n) ts = refl
begins_named value (closed n) ts = refl
begins_named value (inner n) ts = refl

called_read : (m : Named) (ts : List Symbol) → called_at (spell_named m ++ (Open ∷ ts)) ≡ Some (m, ts)
called_read (plain n) ts = refl
called_read (closed n) ts = refl
called_read (inner n) ts = refl

pub atom_read : (value : Reader) (a : Atom) (rest : List Symbol) → Stops rest → terminal_at value (spell_atom a ++ rest) ≡ Some (leaf (atom_form value a), rest)
atom_read value (truth true) rest h = refl
atom_read value (truth false) rest h = refl
atom_read value (relates c) rest h =
    ap (terminal_at value) (spell_behind c rest)
    ∙ begins value c.left c.op (spell_side c.right ++ rest)
    ∙ ap as_leaf (sides_read value c.left c.right c.op rest h)
atom_read value (belongs m s ss) rest h =
    let items = spell_side s ++ (spell_rest spell_side ss ++ (Close ∷ rest)) in
    ap (terminal_at value) (append_assoc (spell_named m) (Open ∷ (spell_side s ++ (spell_rest spell_side ss ++ Close ∷ []))) rest ∙ ap (λ (l : List Symbol). spell_named m ++ (Open ∷ l)) (list_tail spell_side s ss Close rest))
    ∙ begins_named value m (Open ∷ items)
    ∙ ap (λ (o : Option (Named × List Symbol)). as_leaf (atom_by_call value (spell_named m ++ (Open ∷ items)) o)) (called_read m items)
    ∙ ap (λ (o : Option (List Operand × List Symbol)). as_leaf (o >>= λ x. Some (atom (member (name_of m) x.0), x.1))) (operands_read value s ss rest)
