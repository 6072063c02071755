-- The sums of a command that is spelled have each name once, and those of a comparison are over one denominator.
--
-- A sum is made by adding up the products one by one: a product with a name adds to the coefficient of that name where it
-- has one, and else stands at the end. So no name comes twice.
use Rattle.std.proofs.Common.{arith, ◌≡◌, ℕ, ◌<◌, ◌++◌, Bool, true, false, cond, List, [], ◌∷◌, map, refl, subst, sym, inl, inr, bytes_eq}
use Rattle.std.proofs.lemmas.Int.{ints}
use Rattle.std.specs.Prelude.{ℤ, ◌+ℤ◌, Option, Some, None}
use Rattle.std.specs.List.{list_any}
use Rattle.ded_model.specs.declared.command.Language.{Language}
use Rattle.ded_model.specs.Command.{CommandForm}
use Rattle.ded_model.specs.Form.{Form}
use Rattle.ded_model.specs.Logic.{AllAtomsOf, logics}
use Rattle.ded_model.specs.Plain.{AreOnce, IsPlainOperand, ArePlainOperands, ShareDenominator, IsPlainAtom, IsPlain, IsPlainCommand}
use Rattle.ded_grammar.specs.Trees.{TerminalForm, nay, conjunct, disjunct, arrow, opening, closing, binder, leaf}
use Rattle.ded_grammar.proofs.Carried.{TerminalHas, TerminalsHave, spelled_has}
use Rattle.ded_terminals.specs.Symbols.{Symbol}
use Rattle.ded_terminals.specs.Literals.{common, exact, numerator_over}
use Rattle.ded_terminals.specs.Operands.{ParsedSide, SignedFactor, Reading, quoted, named, parts, reading_of, literals, Sums, signed, put, put_at, no_sums, total_from, operand_over}
use Rattle.ded_terminals.specs.Atoms.{argument, Comparison, comparison_form, Atom, truth, relates, belongs, atom_form, IsTerminal, AreTerminals, SpellsFormula}
use Rattle.ded_syntax.specs.Commands.{Plain, opens, defines, inserts_none, inserts, deletes, drops, keeps, shows, boxes, dumps, certifies, verifies_none, verifies, plain_form, Prefix, views, asks, queries, explains, prefix_form, SpellsCommand}
use Rattle.ded_syntax.specs.Spelling.{Spells}
use Rattle.ded_terminals.proofs.Denominators.{common_some, side_some, both_some}
use Rattle.std.proofs.lemmas.Bool.{or_from}
use Rattle.ded_model.proofs.Bools.{or_false_left, or_false_right}

-- ---- sums

-- a name that isn't among the parts and isn't put there
absent : (m : List ℕ) (ps : List (List ℕ × ℤ)) (n : List ℕ) (z : ℤ) → bytes_eq m n ≡ false → list_any (λ d. bytes_eq m d.0) ps ≡ false → list_any (λ d. bytes_eq m d.0) (put ps n z) ≡ false
absent m [] n z other h = or_from (bytes_eq m n) false other refl
absent m (p ∷ ps) n z other h = go (bytes_eq p.0 n) (absent m ps n z other (or_false_right (bytes_eq m p.0) _ h))
  where
    go : (b : Bool) → list_any (λ d. bytes_eq m d.0) (put ps n z) ≡ false → list_any (λ d. bytes_eq m d.0) (cond b ((p.0, p.1 +ℤ z) ∷ ps) (p ∷ put ps n z)) ≡ false
    go true rest = h
    go false rest = or_from (bytes_eq m p.0) _ (or_false_left (bytes_eq m p.0) _ h) rest

once_put : (ps : List (List ℕ × ℤ)) (n : List ℕ) (z : ℤ) → AreOnce ps → AreOnce (put ps n z)
once_put [] n z h = (refl, tt)
once_put (p ∷ ps) n z h = go (bytes_eq p.0 n) refl (once_put ps n z h.1)
  where
    go : (b : Bool) → bytes_eq p.0 n ≡ b → AreOnce (put ps n z) → AreOnce (cond b ((p.0, p.1 +ℤ z) ∷ ps) (p ∷ put ps n z))
    go true e rest = h
    go false e rest = (absent p.0 ps n z e h.0, rest)

once_at : (a : Sums) (o : Option (List ℕ)) (z : ℤ) → AreOnce a.0 → AreOnce (put_at a o z).0
once_at a None z h = h
once_at a (Some n) z h = once_put a.0 n z h

once_all : (m : ℕ) (a : Sums) (ps : List SignedFactor) → AreOnce a.0 → AreOnce (total_from numerator_over m a ps).0
once_all m a [] h = h
once_all m a (p ∷ ps) h = once_all m (put_at a p.1.1 (signed p.0 (numerator_over m p.1.0))) ps (once_at a p.1.1 (signed p.0 (numerator_over m p.1.0)) h)

-- ---- operands and atoms

plain_over : (m : ℕ) → 0 < m → (r : Reading) → IsPlainOperand (operand_over exact m r)
plain_over m some (quoted t) = tt
plain_over m some (named n) = tt
plain_over m some (parts ps) = (omega (arith, ints, some), once_all m no_sums ps tt)

share_over : (m : ℕ) (l r : Reading) → ShareDenominator (operand_over exact m l) (operand_over exact m r)
share_over m (parts ps) (parts qs) = refl
share_over m (parts ps) (named n) = tt
share_over m (parts ps) (quoted t) = tt
share_over m (named n) r = tt
share_over m (quoted t) r = tt

plain_argument : (s : ParsedSide) → IsPlainOperand (argument exact s)
plain_argument s = plain_over _ (common_some _ (side_some s)) (reading_of (λ n. n) s)

plain_arguments : (ss : List ParsedSide) → ArePlainOperands (map (argument exact) ss)
plain_arguments [] = tt
plain_arguments (s ∷ ss) = (plain_argument s, plain_arguments ss)

plain_comparison : (c : Comparison) → IsPlain (comparison_form exact c)
plain_comparison c =
    let l = reading_of (λ n. n) c.left in
    let r = reading_of (λ n. n) c.right in
    let m = common (literals l ++ literals r) in
    let some = common_some (literals l ++ literals r) (both_some _ _ (side_some c.left) (side_some c.right)) in
    (plain_over m some l, plain_over m some r, share_over m l r)

plain_comparisons : (cs : List Comparison) → AllAtomsOf IsPlainAtom (logics (map (comparison_form exact) cs))
plain_comparisons [] = tt
plain_comparisons (c ∷ cs) = (plain_comparison c, plain_comparisons cs)

plain_atom : (a : Atom) → IsPlain (atom_form exact a)
plain_atom (truth true) = tt
plain_atom (truth false) = tt
plain_atom (relates c) = plain_comparison c
plain_atom (belongs m s ss) = (plain_argument s, plain_arguments ss)

-- ---- formulas

plain_terminal : (ts : List Symbol) (p : TerminalForm) → IsTerminal exact ts p → TerminalHas IsPlainAtom p
plain_terminal ts nay h = tt
plain_terminal ts conjunct h = tt
plain_terminal ts disjunct h = tt
plain_terminal ts arrow h = tt
plain_terminal ts opening h = tt
plain_terminal ts closing h = tt
plain_terminal ts (binder q c) h = tt
plain_terminal ts (leaf f) h = subst IsPlain h.2 (plain_atom h.0)

plain_terminals : (ts : List Symbol) (ps : List TerminalForm) → AreTerminals exact ts ps → TerminalsHave IsPlainAtom ps
plain_terminals ts [] h = tt
plain_terminals ts (p ∷ ps) h = (plain_terminal h.0 p h.3, plain_terminals h.1 ps h.4)

plain_formula : (ts : List Symbol) (f : Form) (depth : ℕ) → SpellsFormula exact ts f depth → IsPlain f
plain_formula ts f depth s = spelled_has IsPlainAtom s.terminals f depth s.spells (plain_terminals ts s.terminals s.are)

-- ---- commands

plain_flat : (p : Plain) → IsPlainCommand (plain_form exact p)
plain_flat (opens d two) = tt
plain_flat (defines n h) = tt
plain_flat (inserts_none n) = tt
plain_flat (inserts n c cs) = (plain_comparison c, plain_comparisons cs)
plain_flat (deletes n d) = tt
plain_flat (drops n) = tt
plain_flat (keeps n) = tt
plain_flat (shows n) = tt
plain_flat (boxes n) = tt
plain_flat dumps = tt
plain_flat (certifies n m) = tt
plain_flat (verifies_none n m) = tt
plain_flat (verifies n m e es) = tt

plain_before : (p : Prefix) (f : Form) → IsPlain f → IsPlainCommand (prefix_form p f)
plain_before (views n h) f k = k
plain_before asks f k = k
plain_before (queries h) f k = k
plain_before (explains h) f k = k

plain_command : (ts : List Symbol) (c : CommandForm) (depth : ℕ) → SpellsCommand exact ts c depth → IsPlainCommand c
plain_command ts c depth (inl s) = subst IsPlainCommand (sym s.means) (plain_flat s.plain)
plain_command ts c depth (inr s) = subst IsPlainCommand (sym s.means) (plain_before s.before s.formula (plain_formula s.rest s.formula depth s.spells))

-- a command that bytes spell
pub spelled_plain : (language : Language) (bytes : List ℕ) (c : CommandForm) (depth : ℕ) → Spells language bytes c depth → IsPlainCommand c
spelled_plain language bytes c depth s = plain_command _ c depth s.command
