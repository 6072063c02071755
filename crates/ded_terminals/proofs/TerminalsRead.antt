-- Terminals: what is spelled is read.
use Rattle.std.proofs.Common.{◌≡◌, ℕ, zero, suc, ◌≤◌, ◌<◌, Bool, true, false, List, [], ◌∷◌, ◌++◌, length, refl, sym, ap, subst, ◌∙◌, arith, length-append}
use Rattle.std.specs.Prelude.{Option, Some, None}
use Rattle.ded_model.specs.declared.slot.Sort.{Sort}
use Rattle.ded_model.specs.declared.slot.Sort.TheVariants.{Rat, Text}
use Rattle.ded_model.specs.Form.{Form}
use Rattle.ded_grammar.specs.declared.terminal.Quantifier.{Quantifier}
use Rattle.ded_grammar.specs.declared.terminal.Quantifier.TheVariants.{Exists, Forall}
use Rattle.ded_grammar.specs.declared.scan.Spot.{Spot}
use Rattle.ded_grammar.specs.declared.scan.Spot.TheVariants.{Start, Within, After}
use Rattle.ded_grammar.specs.Trees.{TerminalForm, nay, conjunct, disjunct, arrow, opening, closing, binder, leaf}
use Rattle.ded_grammar.specs.Building.{◌>>=◌}
use Rattle.ded_grammar.specs.Scanning.{stepped, scan}
use Rattle.ded_grammar.specs.Spelling.{Spells}
use Rattle.ded_grammar.proofs.Tells.{scanned}
use Rattle.ded_grammar.proofs.Told.{one_spelled}
use Rattle.ded_terminals.specs.Symbols.{Symbol, Name, Relation}
use Rattle.ded_terminals.specs.Literals.{whole, quotient, decimal, Reader}
use Rattle.ded_terminals.specs.Operands.{scaled, constant, lone, ParsedSide, text, sum, spell_side}
use Rattle.ded_terminals.specs.Atoms.{plain, closed, inner, Atom, truth, relates, belongs, spell_atom, sort_symbols, quantifier_symbol, IsTerminal, AreTerminals, SpellsFormula}
use Rattle.ded_terminals.specs.AtomReading.{sort_at, terminal_at, terminals_within, terminals_at}
use Rattle.ded_terminals.proofs.Binds.{some_same}
use Rattle.ded_terminals.proofs.OperandsRead.{Stops}
use Rattle.ded_terminals.proofs.AtomsRead.{atom_read}

abbrev Step : Type 0
Step = Spot × ℕ

next_scan : (ps : List TerminalForm) (o : Option Step) → elim o as (λ _. Bool) [ None ↦ false | Some x ↦ scan x.0 x.1 ps ] ≡ true → (x : Step) × (o ≡ Some x) × (scan x.0 x.1 ps ≡ true)
next_scan ps None h = absurd cc
next_scan ps (Some x) h = (x, refl, h)

-- what may follow an atom goes on with no sum
after_stops : (ps : List TerminalForm) (n : ℕ) (value : Reader) (rest : List Symbol) → scan After n ps ≡ true → AreTerminals value rest ps → Stops rest
after_stops [] n value rest h e = subst Stops (sym e) tt
after_stops (conjunct ∷ ps) n value rest h (front, r, e, is, more) = subst Stops (sym (e ∙ ap (λ (l : List Symbol). l ++ r) is)) tt
after_stops (disjunct ∷ ps) n value rest h (front, r, e, is, more) = subst Stops (sym (e ∙ ap (λ (l : List Symbol). l ++ r) is)) tt
after_stops (arrow ∷ ps) n value rest h (front, r, e, is, more) = subst Stops (sym (e ∙ ap (λ (l : List Symbol). l ++ r) is)) tt
after_stops (closing ∷ ps) n value rest h (front, r, e, is, more) = subst Stops (sym (e ∙ ap (λ (l : List Symbol). l ++ r) is)) tt
after_stops (nay ∷ ps) n value rest h x = absurd cc
after_stops (opening ∷ ps) n value rest h x = absurd cc
after_stops (binder q c ∷ ps) n value rest h x = absurd cc
after_stops (leaf f ∷ ps) n value rest h x = absurd cc

abbrev Sorted : List Symbol → Type 0
Sorted ts = sort_at ts ≡ (Rat, ts)

no_sort : (q : Quantifier) (ts : List Symbol) → Sorted (quantifier_symbol q ∷ ts)
no_sort Exists ts = refl
no_sort Forall ts = refl

-- what may follow a column isn't `text`
within_sort : (ps : List TerminalForm) (n : ℕ) (value : Reader) (rest : List Symbol) → scan Within n ps ≡ true → AreTerminals value rest ps → Sorted rest
within_sort [] n value rest h e = absurd cc
within_sort (opening ∷ ps) n value rest h (front, r, e, is, more) = subst Sorted (sym (e ∙ ap (λ (l : List Symbol). l ++ r) is)) refl
within_sort (binder q c ∷ ps) n value rest h (front, r, e, is, more) = subst Sorted (sym (e ∙ ap (λ (l : List Symbol). l ++ r) is)) (no_sort q ((Name c.name ∷ sort_symbols c.sort) ++ r))
within_sort (p ∷ ps) n value rest h x = absurd cc

binder_read : (value : Reader) (q : Quantifier) (n : List ℕ) (s : Sort) (rest : List Symbol) → Sorted rest → terminal_at value ((quantifier_symbol q ∷ Name n ∷ sort_symbols s) ++ rest) ≡ Some (binder q (record { name = n; sort = s }), rest)
binder_read value Exists n Text rest h = refl
binder_read value Forall n Text rest h = refl
binder_read value Exists n Rat rest h = ap (λ (x : Sort × List Symbol). Some (binder Exists (record { name = n; sort = x.0 }), x.1)) h
binder_read value Forall n Rat rest h = ap (λ (x : Sort × List Symbol). Some (binder Forall (record { name = n; sort = x.0 }), x.1)) h

terminal_read : (p : TerminalForm) (s : Spot) (n : ℕ) (ps : List TerminalForm) (value : Reader) (front rest : List Symbol) → scan s n (p ∷ ps) ≡ true → IsTerminal value front p → AreTerminals value rest ps → terminal_at value (front ++ rest) ≡ Some (p, rest)
terminal_read nay s n ps value front rest h is more = ap (λ (l : List Symbol). terminal_at value (l ++ rest)) is
terminal_read conjunct s n ps value front rest h is more = ap (λ (l : List Symbol). terminal_at value (l ++ rest)) is
terminal_read disjunct s n ps value front rest h is more = ap (λ (l : List Symbol). terminal_at value (l ++ rest)) is
terminal_read arrow s n ps value front rest h is more = ap (λ (l : List Symbol). terminal_at value (l ++ rest)) is
terminal_read opening s n ps value front rest h is more = ap (λ (l : List Symbol). terminal_at value (l ++ rest)) is
terminal_read closing s n ps value front rest h is more = ap (λ (l : List Symbol). terminal_at value (l ++ rest)) is
terminal_read (binder q c) Start n ps value front rest h is more = ap (λ (l : List Symbol). terminal_at value (l ++ rest)) is ∙ binder_read value q c.name c.sort rest (within_sort ps n value rest h more)
terminal_read (binder q c) Within n ps value front rest h is more = ap (λ (l : List Symbol). terminal_at value (l ++ rest)) is ∙ binder_read value q c.name c.sort rest (within_sort ps n value rest h more)
terminal_read (binder q c) After n ps value front rest h is more = absurd cc
terminal_read (leaf f) Start n ps value front rest h (a, e, m) more =
    ap (λ (l : List Symbol). terminal_at value (l ++ rest)) e
    ∙ atom_read value a rest (after_stops ps n value rest h more)
    ∙ ap (λ (g : Form). Some (leaf g, rest)) m
terminal_read (leaf f) Within n ps value front rest h is more = absurd cc
terminal_read (leaf f) After n ps value front rest h is more = absurd cc

pub some_terminal : (value : Reader) (ts : List Symbol) (x : TerminalForm × List Symbol) (k : ℕ) → terminal_at value ts ≡ Some x → terminals_within value (suc k) ts ≡ (terminals_within value k x.1 >>= λ ps. Some (x.0 ∷ ps))
some_terminal value [] x k e = absurd cc
some_terminal value (t ∷ ts) x k e = ap (λ (o : Option (TerminalForm × List Symbol)). o >>= λ x. terminals_within value k x.1 >>= λ ps. Some (x.0 ∷ ps)) e

within_read : (ps : List TerminalForm) (value : Reader) (ts : List Symbol) (s : Spot) (n : ℕ) (k : ℕ) → scan s n ps ≡ true → AreTerminals value ts ps → length ps ≤ k → terminals_within value k ts ≡ Some ps
within_read [] value ts s n k h e le = ap (terminals_within value k) e ∙ ended k
  where
    ended : (k : ℕ) → terminals_within value k [] ≡ Some []
    ended k = refl
within_read (p ∷ ps) value ts s n zero h are le = absurd (omega (arith, le))
within_read (p ∷ ps) value ts s n (suc k) h are le =
    let x = next_scan ps (stepped s n p) h in
    ap (terminals_within value (suc k)) are.2
    ∙ some_terminal value (are.0 ++ are.1) (p, are.1) k (terminal_read p s n ps value are.0 are.1 h are.3 are.4)
    ∙ ap (λ (o : Option (List TerminalForm)). o >>= λ qs. Some (p ∷ qs)) (within_read ps value are.1 x.0.0 x.0.1 k x.2 are.4 (omega (arith, le)))

-- ---- there are no more terminals than symbols

side_some : (s : ParsedSide) → 0 < length (spell_side s)
side_some (text s) = omega arith
side_some (sum true p ps) = omega arith
side_some (sum false (scaled (whole d) n) ps) = omega arith
side_some (sum false (scaled (quotient d e z) n) ps) = omega arith
side_some (sum false (scaled (decimal t) n) ps) = omega arith
side_some (sum false (constant (whole d)) ps) = omega arith
side_some (sum false (constant (quotient d e z)) ps) = omega arith
side_some (sum false (constant (decimal t)) ps) = omega arith
side_some (sum false (lone n) ps) = omega arith

atom_some : (a : Atom) → 0 < length (spell_atom a)
atom_some (truth true) = omega arith
atom_some (truth false) = omega arith
atom_some (relates c) = omega (arith, side_some c.left, length-append (spell_side c.left) (Relation c.op ∷ spell_side c.right))
atom_some (belongs (plain n) s ss) = omega arith
atom_some (belongs (closed n) s ss) = omega arith
atom_some (belongs (inner n) s ss) = omega arith

terminal_some : (value : Reader) (front : List Symbol) (p : TerminalForm) → IsTerminal value front p → 0 < length front
terminal_some value front nay is = rw is (omega arith)
terminal_some value front conjunct is = rw is (omega arith)
terminal_some value front disjunct is = rw is (omega arith)
terminal_some value front arrow is = rw is (omega arith)
terminal_some value front opening is = rw is (omega arith)
terminal_some value front closing is = rw is (omega arith)
terminal_some value front (binder q c) is = rw is (omega arith)
terminal_some value front (leaf f) (a, e, m) = rw e (atom_some a)

short_terminals : (ps : List TerminalForm) (value : Reader) (ts : List Symbol) → AreTerminals value ts ps → length ps ≤ length ts
short_terminals [] value ts e = omega arith
short_terminals (p ∷ ps) value ts (front, rest, e, is, more) = rw e (omega (arith, length-append front rest, terminal_some value front p is, short_terminals ps value rest more))

pub terminals_read : (value : Reader) (ts : List Symbol) (ps : List TerminalForm) → scan Start 0 ps ≡ true → AreTerminals value ts ps → terminals_at value ts ≡ Some ps
terminals_read value ts ps h are = within_read ps value ts Start 0 (length ts) h are (short_terminals ps value ts are)

pub spelled_scans : (ps : List TerminalForm) (f : Form) (m : ℕ) → Spells ps f m → scan Start 0 ps ≡ true
spelled_scans ps f m sp = ap (scan Start 0) (sym sp.is) ∙ scanned sp.tree

-- symbols spell one formula at most, with one nesting
pub one_spelling : (value : Reader) (ts : List Symbol) (f g : Form) (m n : ℕ) → SpellsFormula value ts f m → SpellsFormula value ts g n → (f ≡ g) × (m ≡ n)
one_spelling value ts f g m n s r =
    let same : s.terminals ≡ r.terminals = some_same s.terminals r.terminals (sym (terminals_read value ts s.terminals (spelled_scans s.terminals f m s.spells) s.are) ∙ terminals_read value ts r.terminals (spelled_scans r.terminals g n r.spells) r.are) in
    one_spelled r.terminals f g m n (subst (λ (ps : List TerminalForm). Spells ps f m) same s.spells) r.spells
