-- What is written of a formula that was read spells what is printed of what is read back, where that has its words, is plain, and has
-- no long row.
use Rattle.std.proofs.Common.{◌≡◌, ◌≤◌, ◌+◌, ℕ, false, List, [], ◌∷◌, length, refl, sym, subst, ap, ◌∙◌}
use Rattle.std.proofs.lemmas.Bool.{or_from}
use Rattle.ded_model.specs.declared.formula.Operand.{Operand}
use Rattle.ded_model.specs.declared.formula.Operand.TheVariants.{Quoted}
use Rattle.ded_model.specs.declared.name.Column.{Column}
use Rattle.ded_model.specs.Form.{Form, FormAtom, compare, member}
use Rattle.ded_model.specs.Goal.{GoalAtom, GoalForm}
use Rattle.ded_model.specs.Known.{KnownNames, IsAccepted}
use Rattle.ded_model.specs.Logic.{atom, always, never, negation, every_of, some_of, implies, minus, exists, forall, Logics, none, also, AllAtoms, AllAtomsOf, some_atom, some_atom_of, quantifiers}
use Rattle.ded_model.specs.LongRows.{is_long_atom}
use Rattle.ded_model.specs.Plain.{IsPlain, ArePlainOperands, IsPlainAtom}
use Rattle.ded_model.specs.Point.{Key}
use Rattle.ded_model.specs.Slotted.{SlotScope, heading_scope, goal_below, goals_below, goal_of}
use Rattle.ded_model.proofs.Bools.{or_false_left, or_false_right}
use Rattle.ded_grammar.specs.Trees.{leaf, spell}
use Rattle.ded_syntax.specs.Marks.{is_marked_atom}
use Rattle.ded_terminals.specs.Atoms.{spell_atom}
use Rattle.ded_syntax.proofs.Marked.{atom_exact}
use Rattle.ded_print.specs.Plans.{key_text}
use Rattle.ded_print.specs.Tuples.{Names, column_names}
use Rattle.ded_dump.specs.Comparisons.{below, row_of}
use Rattle.ded_dump.specs.Formulas.{left_goal, right_goal, goals_in, atom_text, formula_text}
use Rattle.ded_dump.specs.Headings.{places}
use Rattle.ded_reread.specs.Formulas.{restored_atom, restored_by, restored_each, restored}
use Rattle.ded_reread.specs.Operands.{restored_compare}
use Rattle.ded_reread.proofs.Below.{AllIn, AllInOf, each_fails, both_atoms, IsFine, fine_over}
use Rattle.ded_reread.specs.Words.{AtomHasWords, IsNamed, IsChain, IsWritten, AreWritten}
use Rattle.ded_reread.specs.ScriptWords.{IsName, IsMember, IsText}
use Rattle.ded_reread.proofs.WordedAtoms.{IsWordedAtom, as_atom}
use Rattle.ded_reread.proofs.Worded.{Fits}
use Rattle.ded_reread.proofs.AtomsRead.{IsGoalOf, worded_compare, worded_member}
use Rattle.ded_reread.proofs.Trees.{printed}
use Rattle.ded_reread.proofs.TerminalsGoals.{goal_fits}
use Rattle.ded_reread.proofs.TerminalsWords.{Says, say_one}
use Rattle.ded_reread.proofs.Terminals.{ArePaired, EachPaired, IsSome, printed_said}

-- ---- atoms for both readers

abbrev right_side : Form → Operand
right_side (atom (compare l op r)) = r
right_side _ = Quoted []

say_atom : (t : List ℕ) (a : FormAtom) → IsWordedAtom t a → Says t (leaf (atom a) ∷ [])
say_atom t a w =
    say_one Fits t (spell_atom w.spelled) (leaf (atom a)) w.worded (w.spelled, refl, w.means) (w.spelled, refl, atom_exact w.spelled w.unmarked ∙ w.means)

not_marked : (t : List ℕ) (a : FormAtom) → IsWordedAtom t a → is_marked_atom a ≡ false
not_marked t a w = sym (ap (some_atom is_marked_atom) (atom_exact w.spelled w.unmarked ∙ w.means)) ∙ w.unmarked

-- ---- what is asked of an atom with its goal

abbrev pub HasArguments : FormAtom → Type 0
HasArguments (compare l op r) = Unit {0}
HasArguments (member n ts) = 1 ≤ length ts

abbrev HasFitWords : FormAtom → Type 0
HasFitWords = AtomHasWords IsName IsMember IsText

abbrev pub IsFit : Names → FormAtom → GoalForm → Type 0
IsFit names (compare l op r) g =
    IsGoalOf l r (row_of (below g)) × HasFitWords (restored_compare names l op r (row_of (below g))) × IsPlainAtom (restored_compare names l op r (row_of (below g))) × (is_long_atom (restored_compare names l op r (row_of (below g))) ≡ false)
IsFit names (member n ts) g = (1 ≤ length ts) × HasFitWords (member n ts) × ArePlainOperands ts × (is_long_atom (member n ts) ≡ false)

fit_worded : (names : Names) (a : FormAtom) (g : GoalForm) → IsFit names a g → IsWordedAtom (atom_text names a g) (restored_atom names a g)
fit_worded names (compare l op r) g h = as_atom _ _ (worded_compare names l op r (row_of (below g)) h.0 h.1 h.2 h.3)
fit_worded names (member n ts) g h = worded_member n ts h.0 h.1 h.2 h.3

fit_said : (names : Names) (a : FormAtom) (g : GoalForm) → IsFit names a g → Says (atom_text names a g) (leaf (atom (restored_atom names a g)) ∷ [])
fit_said names a g h = say_atom (atom_text names a g) (restored_atom names a g) (fit_worded names a g h)

-- ---- the atoms of a formula with its goal

word_of : (k : Key) → IsNamed IsName k → IsName (key_text k)
word_of k n = subst (λ (x : Key). IsName (key_text x)) (sym n.is) n.passes

some_of_chain : (fs : Logics FormAtom) → IsChain fs → IsSome fs
some_of_chain none c = absurd c
some_of_chain (also f fs) c = tt

module _ (names : Names) (K : KnownNames) where
  abbrev IsTold : FormAtom → Type 0
  IsTold a = IsPlainAtom a × (is_long_atom a ≡ false)

  abbrev AreFine : SlotScope → ℕ → Form → Type 0
  AreFine = AllIn (IsFine K names IsTold)

  abbrev EachFine : SlotScope → ℕ → Logics FormAtom → Type 0
  EachFine = AllInOf (IsFine K names IsTold)

  -- what is known of a formula that was read, below a scope, and of what is read back of it
  record IsReady (scope : SlotScope) (n : ℕ) (f : Form) (r : Form) : Type 0 where
    fine : AreFine scope n f
    written : IsWritten IsName IsMember IsText f
    arguments : AllAtoms HasArguments f
    still_written : IsWritten IsName IsMember IsText r
    still_plain : IsPlain r
    still_short : some_atom is_long_atom r ≡ false

  fit : (a : FormAtom) (scope : SlotScope) (n : ℕ) → IsReady scope n (atom a) (restored_by names (atom a) (goal_below scope n (atom a))) → IsFit names a (goal_below scope n (atom a))
  fit (compare l op r) scope n k = (goal_fits K names IsTold scope l op r k.fine k.fine.more.0 k.fine.more.1, k.still_written, k.still_plain, k.still_short)
  fit (member m ts) scope n k = (k.arguments, k.written, k.fine.more.0, k.fine.more.1)

  mutual
    paired : (f : Form) (scope : SlotScope) (n : ℕ) → IsReady scope n f (restored_by names f (goal_below scope n f)) → ArePaired (IsFit names) f (goal_below scope n f)
    paired (atom a) scope n k = fit a scope n k
    paired always scope n k = tt
    paired never scope n k = tt
    paired (negation f) scope n k =
        paired f scope n (record { fine = k.fine; written = k.written; arguments = k.arguments; still_written = k.still_written; still_plain = k.still_plain; still_short = k.still_short })
    paired (every_of fs) scope n k = (some_of_chain fs k.written.0, each_paired fs scope n k.fine k.written.1 k.arguments k.still_written.1 k.still_plain k.still_short)
    paired (some_of fs) scope n k = (some_of_chain fs k.written.0, each_paired fs scope n k.fine k.written.1 k.arguments k.still_written.1 k.still_plain k.still_short)
    paired (implies e f) scope n k =
        let r = restored_by names e (goal_below scope n e) in
        let s = restored_by names f (goal_below scope (n + quantifiers e) f) in (
          paired e scope n (record {
            fine = k.fine.0;
            written = k.written.0;
            arguments = k.arguments.0;
            still_written = k.still_written.0;
            still_plain = k.still_plain.0;
            still_short = or_false_left (some_atom is_long_atom r) (some_atom is_long_atom s) k.still_short;
          }),
          paired f scope (n + quantifiers e) (record {
            fine = k.fine.1;
            written = k.written.1;
            arguments = k.arguments.1;
            still_written = k.still_written.1;
            still_plain = k.still_plain.1;
            still_short = or_false_right (some_atom is_long_atom r) (some_atom is_long_atom s) k.still_short;
          }),
        )
    paired (minus e f) scope n k = absurd k.written
    paired (exists s x f) scope n k =
        (word_of x k.written.0, paired f ((x, record { number = n; sort = s }) ∷ scope) (n + 1) (record { fine = k.fine; written = k.written.1; arguments = k.arguments; still_written = k.still_written.1; still_plain = k.still_plain; still_short = k.still_short }))
    paired (forall s x f) scope n k =
        (word_of x k.written.0, paired f ((x, record { number = n; sort = s }) ∷ scope) (n + 1) (record { fine = k.fine; written = k.written.1; arguments = k.arguments; still_written = k.still_written.1; still_plain = k.still_plain; still_short = k.still_short }))

    each_paired : (fs : Logics FormAtom) (scope : SlotScope) (n : ℕ) → EachFine scope n fs → AreWritten IsName IsMember IsText fs → AllAtomsOf HasArguments fs → AreWritten IsName IsMember IsText (restored_each names fs (goals_below scope n fs))
        → AllAtomsOf IsPlainAtom (restored_each names fs (goals_below scope n fs)) → some_atom_of is_long_atom (restored_each names fs (goals_below scope n fs)) ≡ false → EachPaired (IsFit names) fs (goals_below scope n fs)
    each_paired none scope n d w a rw rp rs = tt
    each_paired (also f fs) scope n d w a rw rp rs =
        let r = restored_by names f (goal_below scope n f) in
        let us = restored_each names fs (goals_below scope (n + quantifiers f) fs) in (
          paired f scope n (record {
            fine = d.0;
            written = w.0;
            arguments = a.0;
            still_written = rw.0;
            still_plain = rp.0;
            still_short = or_false_left (some_atom is_long_atom r) (some_atom_of is_long_atom us) rs;
          }),
          each_paired fs scope (n + quantifiers f) d.1 w.1 a.1 rw.1 rp.1 (or_false_right (some_atom is_long_atom r) (some_atom_of is_long_atom us) rs),
        )

  mutual
    -- what is read back of atoms that fit has no mark
    unmarked : (f : Form) (g : GoalForm) → ArePaired (IsFit names) f g → some_atom is_marked_atom (restored_by names f g) ≡ false
    unmarked (atom a) g k = not_marked (atom_text names a g) (restored_atom names a g) (fit_worded names a g k)
    unmarked always g k = refl
    unmarked never g k = refl
    unmarked (negation f) g k = unmarked f (below g) k
    unmarked (every_of fs) g k = each_unmarked fs (goals_in g) k.1
    unmarked (some_of fs) g k = each_unmarked fs (goals_in g) k.1
    unmarked (implies e f) g k = or_from (some_atom is_marked_atom (restored_by names e (left_goal g))) (some_atom is_marked_atom (restored_by names f (right_goal g))) (unmarked e (left_goal g) k.0) (unmarked f (right_goal g) k.1)
    unmarked (minus e f) g k = absurd k
    unmarked (exists s x f) g k = unmarked f (below g) k.1
    unmarked (forall s x f) g k = unmarked f (below g) k.1

    each_unmarked : (fs : Logics FormAtom) (gs : Logics GoalAtom) → EachPaired (IsFit names) fs gs → some_atom_of is_marked_atom (restored_each names fs gs) ≡ false
    each_unmarked none gs k = refl
    each_unmarked (also f fs) none k = refl
    each_unmarked (also f fs) (also g gs) k = or_from (some_atom is_marked_atom (restored_by names f g)) (some_atom_of is_marked_atom (restored_each names fs gs)) (unmarked f g k.0) (each_unmarked fs gs k.1)

-- what is asked of a formula over a heading, and of what is read back of it
pub record IsReadable (K : KnownNames) (h : List Column) (f : Form) : Type 0 where
  pub accepted : IsAccepted K h f
  pub written : IsWritten IsName IsMember IsText f
  pub plain : IsPlain f
  pub short : some_atom is_long_atom f ≡ false
  pub arguments : AllAtoms HasArguments f
  pub still_written : IsWritten IsName IsMember IsText (restored h f)
  pub still_plain : IsPlain (restored h f)
  pub still_short : some_atom is_long_atom (restored h f) ≡ false

all_paired : (K : KnownNames) (h : List Column) (f : Form) → IsReadable K h f → ArePaired (IsFit (column_names (places h f))) f (goal_of h f)
unfolding goal_of
all_paired K h f k =
    let names = column_names (places h f) in
    paired names K f (heading_scope 0 h) (length h) (record {
      fine = fine_over K (IsTold names K) h f k.accepted (both_atoms IsPlainAtom (λ a. is_long_atom a ≡ false) f k.plain (each_fails is_long_atom f k.short));
      written = k.written;
      arguments = k.arguments;
      still_written = k.still_written;
      still_plain = k.still_plain;
      still_short = k.still_short;
    })

pub formula_said : (K : KnownNames) (h : List Column) (f : Form) → IsReadable K h f → Says (formula_text h f) (spell (printed (restored h f)))
formula_said K h f k =
    printed_said (column_names (places h f)) (IsFit (column_names (places h f))) (fit_said (column_names (places h f))) f (goal_of h f) (all_paired K h f k)

pub formula_unmarked : (K : KnownNames) (h : List Column) (f : Form) → IsReadable K h f → some_atom is_marked_atom (restored h f) ≡ false
formula_unmarked K h f k = unmarked (column_names (places h f)) K f (goal_of h f) (all_paired K h f k)
