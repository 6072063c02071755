-- A narrow goal is tight.
--
-- An atom of a name has the name's lines, renamed to the slots of its arguments, and the lines of the rows that tie the new
-- ones. Then the new slots are eliminated, each of which its rank counts.
use Rattle.std.proofs.Common.{◌≡◌, ℕ, ◌+◌, Bool, false, ◌||◌, List, [], ◌∷◌, arith, refl, sym, subst}
use Rattle.std.specs.Prelude.{max}
use Rattle.ded_num.proofs.Tests.{or_false_none}
use Rattle.ded_model.specs.declared.slot.Slot.{Slot}
use Rattle.ded_model.specs.declared.slot.Sort.{Sort}
use Rattle.ded_model.specs.declared.slot.Sort.TheVariants.{Rat, Text}
use Rattle.ded_model.specs.Point.{slot, AreDistinctSlots}
use Rattle.ded_model.specs.Logic.{one_more}
use Rattle.ded_model.specs.Goal.{GoalAtom, linear, theme, member, GoalForm}
use Rattle.ded_model.specs.Scanned.{Scanned, scanned, scanned_slots, tied_atoms, fresh_slots, rational_count}
use Rattle.ded_model.specs.Lines.{Line, elim_past_all, clash_past_all, elim_past, clash_past}
use Rattle.ded_model.specs.Measure.{Measures, scanned_lines, goal_atom_b, goal_atom_rank, goal_atom_lines, goal_atom_clash, goal_b, goal_rank, goal_lines, goal_clashes}
use Rattle.ded_model.specs.Width.{IsNarrowWith, tuple_length}
use Rattle.ded_width.specs.Reach.{AreInReach, AreWithinReach, AreAscendingRows, IsAscendingGoalAtom, IsAscendingGoal}
use Rattle.ded_width.proofs.Reaches.{IsInReach, nothing, both, past, in_reach, within}
use Rattle.ded_width.proofs.LineReaches.{row_in_reach, atoms_in_reach}
use Rattle.ded_width.proofs.RenamedReaches.{renamed_in_reach}
use Rattle.ded_width.proofs.PlanReaches.{name_in_reach}
use Rattle.ded_width.proofs.ArgumentSlots.{arguments_distinct, arguments_ascending}
use Rattle.ded_model.proofs.Bools.{or_assoc}

-- ---- past the new slots

-- a slot counts where it is rational
counted : (q : ℕ) (s : Slot) (ss : List Slot) → one_more s.sort q + rational_count ss ≡ q + rational_count (s ∷ ss)
counted q s ss = go s.sort (rational_count ss)
  where
    go : (x : Sort) (m : ℕ) → one_more x q + m ≡ q + one_more x m
    go Rat m = omega arith
    go Text m = refl

-- with another rank and another test that are the same
same : (b q r : ℕ) (ls : List Line) (c d : Bool) → q ≡ r → c ≡ d → IsInReach b q ls c → IsInReach b r ls d
same b q r ls c d e f h = subst (λ n. IsInReach b n ls d) e (subst (λ x. IsInReach b q ls x) f h)

past_all : (ss : List Slot) (b q : ℕ) (ls : List Line) (c : Bool) → IsInReach b q ls c → IsInReach b (q + rational_count ss) (elim_past_all ss ls) (c || clash_past_all ss ls)
past_all [] b q ls c h = same b q (q + 0) ls c (c || false) (omega arith) (or_false_none c) h
past_all (s ∷ ss) b q ls c h =
    let ms = elim_past s.sort (slot s) ls in
    let d = clash_past s.sort (slot s) ls in
    same b _ _ (elim_past_all ss ms) _ _ (counted q s ss) (or_assoc c d (clash_past_all ss ms)) (past_all ss b (one_more s.sort q) ms (c || d) (past b q s.sort (slot s) ls c h))

-- ---- atoms

max_none : (i : ℕ) → max i 0 ≡ i
max_none i = omega arith

-- the lines of a name at the arguments
scanned_in_reach : (M : Measures) → AreInReach M → (n : List ℕ) (gs : List Scanned) → AreDistinctSlots (scanned_slots gs) → AreAscendingRows (tied_atoms gs)
    → IsInReach (max (M n).b (tuple_length (tied_atoms gs))) (M n).rank (scanned_lines M n gs) (M n).clash
scanned_in_reach M h n gs d a =
    same _ _ _ _ _ _ (max_none (M n).rank) (sym (or_false_none (M n).clash))
    (both _ _ _ _ _ _ _ _ (renamed_in_reach (scanned_slots gs) _ _ _ _ d (name_in_reach M h n)) (atoms_in_reach (tied_atoms gs) a))

goal_atom_in_reach : (M : Measures) → AreInReach M → (a : GoalAtom) → IsAscendingGoalAtom a → IsInReach (goal_atom_b M a) (goal_atom_rank M a) (goal_atom_lines M a) (goal_atom_clash M a)
goal_atom_in_reach M h (linear r) a = row_in_reach r a
goal_atom_in_reach M h (theme t) a = nothing 0 0
goal_atom_in_reach M h (member n ts) a =
    past_all (fresh_slots (scanned ts)) _ _ (scanned_lines M n (scanned ts)) _ (scanned_in_reach M h n (scanned ts) (arguments_distinct ts) (arguments_ascending ts a))

-- ---- goals

pub goal_in_reach : (M : Measures) → AreInReach M → (g : GoalForm) → IsAscendingGoal g → IsInReach (goal_b M g) (goal_rank M g) (goal_lines M g) (goal_clashes M g)
goal_in_reach M h g a = in_reach (goal_atom_lines M) (goal_atom_clash M) (goal_atom_b M) (goal_atom_rank M) IsAscendingGoalAtom (goal_atom_in_reach M h) g a

pub goal_within : (M : Measures) → AreInReach M → (g : GoalForm) → IsAscendingGoal g → AreWithinReach (goal_b M g) (goal_rank M g) (goal_lines M g)
goal_within M h g a = within _ _ _ _ (goal_in_reach M h g a)

pub goal_tight : (M : Measures) → AreInReach M → (g : GoalForm) → IsAscendingGoal g → IsNarrowWith (goal_b M g) (goal_rank M g) → goal_clashes M g ≡ false
goal_tight M h g a n = (goal_in_reach M h g a).tight n
