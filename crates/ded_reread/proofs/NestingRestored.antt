-- What is read back of a formula nests no deeper than the formula.
use Rattle.std.proofs.Common.{◌≡◌, ◌≤◌, ◌<◌, ℕ, Bool, true, false, List, [], ◌∷◌, refl, ap, subst, sym, ◌∙◌, arith, inl, inr, true≢false}
use Rattle.std.specs.Prelude.{nat_lt}
use Rattle.std.proofs.lemmas.Bool.Decides.{nat_tests}
use Rattle.std.proofs.Math.Nat.{le-max_left}
use Rattle.ded_model.specs.declared.command.Language.{Language}
use Rattle.ded_model.specs.declared.command.Refusal.TheVariants.{Deep}
use Rattle.ded_model.specs.declared.name.Column.{Column}
use Rattle.ded_model.specs.Command.{CommandForm, view, ask, query, explain}
use Rattle.ded_model.specs.Form.{Form, FormAtom}
use Rattle.ded_model.specs.Goal.{GoalAtom, GoalForm}
use Rattle.ded_model.specs.Logic.{atom, always, never, negation, every_of, some_of, implies, minus, exists, forall, Logics, none, also}
use Rattle.ded_grammar.specs.Trees.{TerminalForm, nay, conjunct, disjunct, arrow, opening, closing, binder, leaf, Both, One, nesting, nesting_either, nesting_both, nesting_one}
use Rattle.ded_terminals.specs.Symbols.{Symbol}
use Rattle.ded_terminals.specs.Literals.{Reader, exact}
use Rattle.ded_terminals.specs.Atoms.{Atom, truth, relates, belongs, atom_form, IsTerminal, AreTerminals, SpellsFormula}
use Rattle.ded_syntax.specs.Commands.{Plain, opens, defines, inserts_none, inserts, deletes, drops, keeps, shows, boxes, dumps, certifies, verifies_none, verifies, plain_form, Prefix, views, asks, queries, explains, prefix_form, SpellsCommand}
use Rattle.ded_syntax.specs.Spelling.{IsRead}
use Rattle.ded_print.specs.Tuples.{Names}
use Rattle.ded_dump.specs.Comparisons.{below}
use Rattle.ded_dump.specs.Formulas.{left_goal, right_goal, goals_in}
use Rattle.ded_reread.specs.Formulas.{restored_by, restored_each, restored}
use Rattle.ded_reread.proofs.Trees.{Shape, unit, conjunction, disjunction, implication, as_one, as_both, as_either, as_whole, shape, all_printed, all_from, any_printed, any_from, printed}
use Rattle.ded_reread.proofs.Nesting.{both_max, more, through, IsFlat, IsFlatTerminal, AreFlat, whole_nests}

-- ---- shapes of one kind

abbrev IsBelow : Shape → Shape → Type 0
IsBelow (unit u) (unit v) = nesting_one u ≤ nesting_one v
IsBelow (conjunction b) (conjunction c) = nesting_both b ≤ nesting_both c
IsBelow (disjunction d) (disjunction e) = nesting_either d ≤ nesting_either e
IsBelow (implication v) (implication w) = nesting v ≤ nesting w
IsBelow _ _ = ⊥

one_keeps : (s t : Shape) → IsBelow s t → nesting_one (as_one s) ≤ nesting_one (as_one t)
one_keeps (unit u) (unit v) h = h
one_keeps (conjunction b) (conjunction c) h = more h
one_keeps (disjunction d) (disjunction e) h = more h
one_keeps (implication v) (implication w) h = more h
one_keeps _ _ h = absurd h

both_keeps : (s t : Shape) → IsBelow s t → nesting_both (as_both s) ≤ nesting_both (as_both t)
both_keeps (unit u) (unit v) h = h
both_keeps (conjunction b) (conjunction c) h = h
both_keeps (disjunction d) (disjunction e) h = more h
both_keeps (implication v) (implication w) h = more h
both_keeps _ _ h = absurd h

either_keeps : (s t : Shape) → IsBelow s t → nesting_either (as_either s) ≤ nesting_either (as_either t)
either_keeps (unit u) (unit v) h = h
either_keeps (conjunction b) (conjunction c) h = h
either_keeps (disjunction d) (disjunction e) h = h
either_keeps (implication v) (implication w) h = more h
either_keeps _ _ h = absurd h

whole_keeps : (s t : Shape) → IsBelow s t → nesting (as_whole s) ≤ nesting (as_whole t)
whole_keeps (unit u) (unit v) h = h
whole_keeps (conjunction b) (conjunction c) h = h
whole_keeps (disjunction d) (disjunction e) h = h
whole_keeps (implication v) (implication w) h = h
whole_keeps _ _ h = absurd h

none_below : (n : ℕ) → 0 ≤ n
none_below n = omega arith

-- ---- what is read back

module _ (names : Names) where
  mutual
    shape_below : (f : Form) (g : GoalForm) → IsBelow (shape (restored_by names f g)) (shape f)
    shape_below (atom a) g = none_below 0
    shape_below always g = none_below 0
    shape_below never g = none_below 0
    shape_below (negation f) g = more (one_keeps (shape (restored_by names f (below g))) (shape f) (shape_below f (below g)))
    shape_below (every_of fs) g = all_below fs (goals_in g)
    shape_below (some_of fs) g = any_below fs (goals_in g)
    shape_below (implies e f) g =
        more (both_max (either_keeps (shape (restored_by names e (left_goal g))) (shape e) (shape_below e (left_goal g))) (whole_keeps (shape (restored_by names f (right_goal g))) (shape f) (shape_below f (right_goal g))))
    shape_below (minus e f) g = none_below 0
    shape_below (exists s k f) g = more (whole_keeps (shape (restored_by names f (below g))) (shape f) (shape_below f (below g)))
    shape_below (forall s k f) g = more (whole_keeps (shape (restored_by names f (below g))) (shape f) (shape_below f (below g)))

    all_below : (fs : Logics FormAtom) (gs : Logics GoalAtom) → nesting_both (all_printed (restored_each names fs gs)) ≤ nesting_both (all_printed fs)
    all_below none gs = none_below 0
    all_below (also f fs) none = none_below (nesting_both (all_printed (also f fs)))
    all_below (also f fs) (also g gs) =
        all_from_below (as_one (shape (restored_by names f g))) (as_one (shape f)) fs gs (one_keeps (shape (restored_by names f g)) (shape f) (shape_below f g))

    all_from_below : (u v : One) (fs : Logics FormAtom) (gs : Logics GoalAtom) → nesting_one u ≤ nesting_one v → nesting_both (all_from u (restored_each names fs gs)) ≤ nesting_both (all_from v fs)
    all_from_below u v none gs h = h
    all_from_below u v (also f fs) none h = through h (le-max_left (nesting_one v) (nesting_both (all_from (as_one (shape f)) fs)))
    all_from_below u v (also f fs) (also g gs) h =
        both_max h (all_from_below (as_one (shape (restored_by names f g))) (as_one (shape f)) fs gs (one_keeps (shape (restored_by names f g)) (shape f) (shape_below f g)))

    any_below : (fs : Logics FormAtom) (gs : Logics GoalAtom) → nesting_either (any_printed (restored_each names fs gs)) ≤ nesting_either (any_printed fs)
    any_below none gs = none_below 0
    any_below (also f fs) none = none_below (nesting_either (any_printed (also f fs)))
    any_below (also f fs) (also g gs) =
        any_from_below (as_both (shape (restored_by names f g))) (as_both (shape f)) fs gs (both_keeps (shape (restored_by names f g)) (shape f) (shape_below f g))

    any_from_below : (b c : Both) (fs : Logics FormAtom) (gs : Logics GoalAtom) → nesting_both b ≤ nesting_both c → nesting_either (any_from b (restored_each names fs gs)) ≤ nesting_either (any_from c fs)
    any_from_below b c none gs h = h
    any_from_below b c (also f fs) none h = through h (le-max_left (nesting_both c) (nesting_either (any_from (as_both (shape f)) fs)))
    any_from_below b c (also f fs) (also g gs) h =
        both_max h (any_from_below (as_both (shape (restored_by names f g))) (as_both (shape f)) fs gs (both_keeps (shape (restored_by names f g)) (shape f) (shape_below f g)))

  restored_nests : (f : Form) (g : GoalForm) → nesting (printed (restored_by names f g)) ≤ nesting (printed f)
  restored_nests f g = whole_keeps (shape (restored_by names f g)) (shape f) (shape_below f g)

-- ---- what was read

atom_flat : (value : Reader) (a : Atom) → IsFlat (atom_form value a)
atom_flat value (truth true) = none_below 0
atom_flat value (truth false) = none_below 0
atom_flat value (relates c) = none_below 0
atom_flat value (belongs n s ss) = none_below 0

terminal_flat : (value : Reader) (ts : List Symbol) (p : TerminalForm) → IsTerminal value ts p → IsFlatTerminal p
terminal_flat value ts nay h = tt
terminal_flat value ts conjunct h = tt
terminal_flat value ts disjunct h = tt
terminal_flat value ts arrow h = tt
terminal_flat value ts opening h = tt
terminal_flat value ts closing h = tt
terminal_flat value ts (binder q c) h = tt
terminal_flat value ts (leaf f) h = subst IsFlat h.2 (atom_flat value h.0)

terminals_flat : (value : Reader) (ts : List Symbol) (ps : List TerminalForm) → AreTerminals value ts ps → AreFlat ps
terminals_flat value ts [] h = tt
terminals_flat value ts (p ∷ ps) h = (terminal_flat value h.0 p h.3, terminals_flat value h.1 ps h.4)

formula_nests : (value : Reader) (ts : List Symbol) (f : Form) (depth : ℕ) → SpellsFormula value ts f depth → nesting (printed f) ≤ depth
formula_nests value ts f depth s =
    let flat = subst AreFlat (sym s.spells.is) (terminals_flat value ts s.terminals s.are) in
    let least = whole_nests s.spells.tree flat in
    subst (λ (n : ℕ). nesting (printed f) ≤ n) s.spells.nests (subst (λ (g : Form). nesting (printed g) ≤ nesting s.spells.tree) s.spells.means least)

-- the formula of a command that has one
abbrev formula_of : CommandForm → Form
formula_of (view n h f) = f
formula_of (ask f) = f
formula_of (query h f) = f
formula_of (explain h f) = f
formula_of _ = always

abbrev is_view : CommandForm → Bool
is_view (view n h f) = true
is_view _ = false

no_view : (value : Reader) (p : Plain) → is_view (plain_form value p) ≡ false
no_view value (opens d two) = refl
no_view value (defines n h) = refl
no_view value (inserts_none n) = refl
no_view value (inserts n c cs) = refl
no_view value (deletes n d) = refl
no_view value (drops n) = refl
no_view value (keeps n) = refl
no_view value (shows n) = refl
no_view value (boxes n) = refl
no_view value dumps = refl
no_view value (certifies n m) = refl
no_view value (verifies_none n m) = refl
no_view value (verifies n m e es) = refl

formula_in : (p : Prefix) (f : Form) → formula_of (prefix_form p f) ≡ f
formula_in (views n h) f = refl
formula_in asks f = refl
formula_in (queries h) f = refl
formula_in (explains h) f = refl

-- the formula of a view is spelled
pub view_formula : (value : Reader) (ts : List Symbol) (n : List ℕ) (h : List Column) (f : Form) (depth : ℕ) → SpellsCommand value ts (view n h f) depth → (rest : List Symbol) × SpellsFormula value rest f depth
view_formula value ts n h f depth (inl s) = absurd (true≢false (ap is_view s.means ∙ no_view value s.plain))
view_formula value ts n h f depth (inr s) =
    let same : s.formula ≡ f = sym (ap formula_of s.means ∙ formula_in s.before s.formula) in
    (s.rest, subst (λ (g : Form). SpellsFormula value s.rest g depth) same s.spells)

view_nests : (value : Reader) (ts : List Symbol) (n : List ℕ) (h : List Column) (f : Form) (depth : ℕ) → SpellsCommand value ts (view n h f) depth → nesting (printed f) ≤ depth
view_nests value ts n h f depth s = let x = view_formula value ts n h f depth s in formula_nests value x.0 f depth x.1

low_depth : (language : Language) (bytes : List ℕ) (c : CommandForm) (r : IsRead language bytes c) → r.depth ≤ 64
low_depth language bytes c r = by (nat_lt 64 r.depth) refl
  where
    high : (n : ℕ) → nat_lt 64 n ≡ true → 64 < n
    high n e = grind (arith, nat_tests)

    low : (n : ℕ) → nat_lt 64 n ≡ false → n ≤ 64
    low n e = grind (arith, nat_tests)

    by : (b : Bool) → nat_lt 64 r.depth ≡ b → r.depth ≤ 64
    by true e = absurd (r.accepted Deep (record { command = c; depth = r.depth; spells = r.spells; above = high r.depth e }))
    by false e = low r.depth e

-- where a view was read, what is read back of its formula nests at most 64 deep
pub restored_low : (language : Language) (bytes n : List ℕ) (h : List Column) (f : Form) → IsRead language bytes (view n h f) → nesting (printed (restored h f)) ≤ 64
restored_low language bytes n h f r =
    through (restored_nests _ f _) (through (view_nests exact _ n h f r.depth r.spells.command) (low_depth language bytes (view n h f) r))
