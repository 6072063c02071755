-- Commands without marks: what is spelled of them by the marking reader is spelled exactly.
use Rattle.std.proofs.Common.{◌≡◌, inl, inr, ℕ, Bool, true, false, List, [], ◌∷◌, ◌++◌, map, refl, sym, ap, ap₂, ◌∙◌, true≢false}
use Rattle.std.specs.Prelude.{◌^◌, ◌||◌, nat_le, if◌then◌else◌}
use Rattle.std.specs.List.{list_any}
use Rattle.std.proofs.lemmas.Bool.{or_parts}
use Rattle.ded_model.specs.declared.formula.Operand.{Operand}
use Rattle.ded_model.specs.declared.formula.CompareOp.{CompareOp}
use Rattle.ded_model.specs.Command.{CommandForm, insert}
use Rattle.ded_model.specs.Form.{Form, compare, member}
use Rattle.ded_model.specs.Logic.{atom, logics, some_atom, some_atom_of}
use Rattle.ded_grammar.specs.Trees.{TerminalForm, nay, conjunct, disjunct, arrow, opening, closing, binder, leaf, terminal_atom}
use Rattle.ded_grammar.proofs.Leaves.{spelled_atoms}
use Rattle.ded_terminals.specs.Symbols.{Symbol}
use Rattle.ded_terminals.specs.Literals.{Literal, common, exact, marked, are_long_over, numerator_over, marked_numerator}
use Rattle.ded_terminals.specs.Operands.{ParsedSide, SignedFactor, Reading, quoted, named, parts, literals, Sums, signed, put_at, no_sums, total_from, as_sum, operand_over, reading_of}
use Rattle.ded_terminals.specs.Atoms.{compared, Comparison, comparison_form, argument, name_of, Atom, truth, relates, belongs, atom_form, IsTerminal, AreTerminals}
use Rattle.ded_syntax.specs.Commands.{Plain, opens, defines, inserts_none, inserts, deletes, drops, keeps, shows, boxes, dumps, certifies, verifies_none, verifies, plain_form, views, asks, queries, explains, prefix_form, SpellsCommand}
use Rattle.ded_syntax.specs.Marks.{is_marked, is_marked_atom, has_mark}

-- ---- over a denominator that isn't a mark

total_same : (m : ℕ) → nat_le (2 ^ 63) m ≡ false → (a : Sums) (ps : List SignedFactor) → total_from marked_numerator m a ps ≡ total_from numerator_over m a ps
total_same m low a [] = refl
total_same m low a (p ∷ ps) =
    ap (λ (b : Bool). total_from marked_numerator m (put_at a p.1.1 (signed p.0 (if b then 0 else numerator_over m p.1.0))) ps) low
    ∙ total_same m low (put_at a p.1.1 (signed p.0 (numerator_over m p.1.0))) ps

operand_same : (m : ℕ) → nat_le (2 ^ 63) m ≡ false → (r : Reading) → operand_over marked m r ≡ operand_over exact m r
operand_same m low (quoted t) = refl
operand_same m low (named n) = refl
operand_same m low (parts ps) = ap (as_sum m) (total_same m low no_sums ps)

-- some literals are long: they are marked
marks : (ls : List Literal) → are_long_over (common ls) ls ≡ true → marked.denominator ls ≡ 2 ^ 63
marks ls e = ap (λ (b : Bool). if b then 2 ^ 63 else common ls) e

unmarked : (ls : List Literal) → are_long_over (common ls) ls ≡ false → marked.denominator ls ≡ common ls
unmarked ls e = ap (λ (b : Bool). if b then 2 ^ 63 else common ls) e

low_of : (ls : List Literal) → are_long_over (common ls) ls ≡ false → nat_le (2 ^ 63) (common ls) ≡ false
low_of ls e = (or_parts _ _ e).0

-- a side with literals is a sum, which has the mark
marked_side : (r : Reading) (l : Literal) (ls : List Literal) → literals r ≡ l ∷ ls → is_marked (operand_over marked (2 ^ 63) r) ≡ true
marked_side (quoted t) l ls e = absurd cc
marked_side (named n) l ls e = absurd cc
marked_side (parts ps) l ls e = refl

marked_either : (l r : Reading) → are_long_over (common (literals l ++ literals r)) (literals l ++ literals r) ≡ true → (is_marked (operand_over marked (2 ^ 63) l) || is_marked (operand_over marked (2 ^ 63) r)) ≡ true
marked_either l r e = by (literals l) refl
  where
    only : (us : List Literal) → literals r ≡ us → are_long_over (common us) us ≡ true → (is_marked (operand_over marked (2 ^ 63) l) || is_marked (operand_over marked (2 ^ 63) r)) ≡ true
    only [] g f = absurd (true≢false (sym f))
    only (u ∷ us) g f = ap (λ (b : Bool). is_marked (operand_over marked (2 ^ 63) l) || b) (marked_side r u us g) ∙ or_true (is_marked (operand_over marked (2 ^ 63) l))
      where
        or_true : (b : Bool) → (b || true) ≡ true
        or_true true = refl
        or_true false = refl

    by : (us : List Literal) → literals l ≡ us → (is_marked (operand_over marked (2 ^ 63) l) || is_marked (operand_over marked (2 ^ 63) r)) ≡ true
    by [] g = only (literals r) refl (ap (λ (us : List Literal). are_long_over (common (us ++ literals r)) (us ++ literals r)) (sym g) ∙ e)
    by (u ∷ us) g = ap (λ (b : Bool). b || is_marked (operand_over marked (2 ^ 63) r)) (marked_side l u us g)

-- ---- comparisons and arguments

compared_exact : (l r : Reading) (op : CompareOp) → some_atom is_marked_atom (compared marked l op r) ≡ false → compared marked l op r ≡ compared exact l op r
compared_exact l r op free = by (are_long_over (common ls) ls) refl
  where
    ls : List Literal
    ls = literals l ++ literals r

    by : (b : Bool) → are_long_over (common ls) ls ≡ b → compared marked l op r ≡ compared exact l op r
    by true e = absurd (true≢false (sym (marked_either l r e) ∙ ap (λ (m : ℕ). is_marked (operand_over marked m l) || is_marked (operand_over marked m r)) (sym (marks ls e)) ∙ free))
    by false e =
        ap (λ (m : ℕ). atom (compare (operand_over marked m l) op (operand_over marked m r))) (unmarked ls e)
        ∙ ap₂ (λ (a b : Operand). atom (compare a op b)) (operand_same (common ls) (low_of ls e) l) (operand_same (common ls) (low_of ls e) r)

pub comparison_exact : (c : Comparison) → some_atom is_marked_atom (comparison_form marked c) ≡ false → comparison_form marked c ≡ comparison_form exact c
comparison_exact c free = compared_exact (reading_of (λ n. n) c.left) (reading_of (λ n. n) c.right) c.op free

pub argument_exact : (s : ParsedSide) → is_marked (argument marked s) ≡ false → argument marked s ≡ argument exact s
argument_exact s free = by (are_long_over (common ls) ls) refl
  where
    r : Reading
    r = reading_of (λ n. n) s

    ls : List Literal
    ls = literals r

    one : (us : List Literal) → literals r ≡ us → are_long_over (common us) us ≡ true → is_marked (operand_over marked (2 ^ 63) r) ≡ true
    one [] g f = absurd (true≢false (sym f))
    one (u ∷ us) g f = marked_side r u us g

    by : (b : Bool) → are_long_over (common ls) ls ≡ b → argument marked s ≡ argument exact s
    by true e = absurd (true≢false (sym (one ls refl e) ∙ ap (λ (m : ℕ). is_marked (operand_over marked m r)) (sym (marks ls e)) ∙ free))
    by false e = ap (λ (m : ℕ). operand_over marked m r) (unmarked ls e) ∙ operand_same (common ls) (low_of ls e) r

pub arguments_exact : (ss : List ParsedSide) → list_any is_marked (map (argument marked) ss) ≡ false → map (argument marked) ss ≡ map (argument exact) ss
arguments_exact [] free = refl
arguments_exact (s ∷ ss) free =
    let both = or_parts _ _ free in
    ap₂ (λ (x : Operand) (xs : List Operand). x ∷ xs) (argument_exact s both.0) (arguments_exact ss both.1)

pub atom_exact : (a : Atom) → some_atom is_marked_atom (atom_form marked a) ≡ false → atom_form marked a ≡ atom_form exact a
atom_exact (truth true) free = refl
atom_exact (truth false) free = refl
atom_exact (relates c) free = comparison_exact c free
atom_exact (belongs m s ss) free = ap (λ (os : List Operand). atom (member (name_of m) os)) (arguments_exact (s ∷ ss) free)

-- ---- terminals and commands

terminal_exact : (p : TerminalForm) (front : List Symbol) → terminal_atom is_marked_atom p ≡ false → IsTerminal marked front p → IsTerminal exact front p
terminal_exact (leaf f) front free (a, e, m) = (a, e, sym (atom_exact a (ap (some_atom is_marked_atom) m ∙ free)) ∙ m)
terminal_exact nay front free is = is
terminal_exact conjunct front free is = is
terminal_exact disjunct front free is = is
terminal_exact arrow front free is = is
terminal_exact opening front free is = is
terminal_exact closing front free is = is
terminal_exact (binder q c) front free is = is

terminals_exact : (ps : List TerminalForm) (ts : List Symbol) → list_any (terminal_atom is_marked_atom) ps ≡ false → AreTerminals marked ts ps → AreTerminals exact ts ps
terminals_exact [] ts free e = e
terminals_exact (p ∷ ps) ts free (front, rest, e, is, more) =
    let both = or_parts _ _ free in
    (front, rest, e, terminal_exact p front both.0 is, terminals_exact ps rest both.1 more)

comparisons_exact : (cs : List Comparison) → some_atom_of is_marked_atom (logics (map (comparison_form marked) cs)) ≡ false → map (comparison_form marked) cs ≡ map (comparison_form exact) cs
comparisons_exact [] free = refl
comparisons_exact (c ∷ cs) free =
    let both = or_parts _ _ free in
    ap₂ (λ (x : Form) (xs : List Form). x ∷ xs) (comparison_exact c both.0) (comparisons_exact cs both.1)

plain_exact : (p : Plain) → has_mark (plain_form marked p) ≡ false → plain_form marked p ≡ plain_form exact p
plain_exact (opens d two) free = refl
plain_exact (defines n h) free = refl
plain_exact (inserts_none n) free = refl
plain_exact (inserts n c cs) free = ap (λ (fs : List Form). insert n (logics fs)) (comparisons_exact (c ∷ cs) free)
plain_exact (deletes n d) free = refl
plain_exact (drops n) free = refl
plain_exact (keeps n) free = refl
plain_exact (shows n) free = refl
plain_exact (boxes n) free = refl
plain_exact dumps free = refl
plain_exact (certifies n m) free = refl
plain_exact (verifies_none n m) free = refl
plain_exact (verifies n m e es) free = refl

prefix_marks : (p : _) (f : Form) → has_mark (prefix_form p f) ≡ some_atom is_marked_atom f
prefix_marks (views n h) f = refl
prefix_marks asks f = refl
prefix_marks (queries h) f = refl
prefix_marks (explains h) f = refl

pub command_exact : (ts : List Symbol) (c : CommandForm) (depth : ℕ) → has_mark c ≡ false → SpellsCommand marked ts c depth → SpellsCommand exact ts c depth
command_exact ts c depth free (inl s) =
    inl (record { plain = s.plain; spelled = s.spelled; means = s.means ∙ plain_exact s.plain (ap has_mark (sym s.means) ∙ free); flat = s.flat })
command_exact ts c depth free (inr s) =
    let atoms = spelled_atoms is_marked_atom s.spells.terminals s.formula depth s.spells.spells in
    let none = atoms ∙ sym (prefix_marks s.before s.formula) ∙ ap has_mark (sym s.means) ∙ free in
    inr (record {
      before = s.before;
      rest = s.rest;
      spelled = s.spelled;
      formula = s.formula;
      spells = record { terminals = s.spells.terminals; are = terminals_exact s.spells.terminals s.rest none s.spells.are; spells = s.spells.spells };
      means = s.means;
    })
