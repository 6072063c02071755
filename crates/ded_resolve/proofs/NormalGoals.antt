-- The goal of a formula is normal, where no text stands in a comparison in the place of a number, and no number in the place
-- of a text.
use Rattle.std.proofs.Common.{◌≡◌, ℕ, ◌+◌, ◌<◌, nat_lt, ◌==◌, ◌&&◌, ◌||◌, Bool, true, false, cond, List, ◌∷◌, length, arith, refl, ap, ◌∙◌, bytes_eq}
use Rattle.std.specs.Prelude.{pos}
use lib.IntN.{neg_ℤ}
use Rattle.std.proofs.lemmas.Bool.Decides.{nat_tests}
use Rattle.ded_model.specs.declared.slot.Slot.{Slot}
use Rattle.ded_model.specs.declared.slot.Sort.{Sort}
use Rattle.ded_model.specs.declared.slot.Sort.TheVariants.{Rat, Text}
use Rattle.ded_model.specs.declared.name.Column.{Column}
use Rattle.ded_model.specs.declared.row.RowOp.{RowOp}
use Rattle.ded_model.specs.declared.row.RowOp.TheVariants.{Zero, AtMost, Below}
use Rattle.ded_model.specs.declared.formula.CompareOp.{CompareOp}
use Rattle.ded_model.specs.declared.formula.CompareOp.TheVariants.{Less, LessEq, Equal, NotEqual, GreaterEq, Greater}
use Rattle.ded_model.specs.declared.formula.Operand.{Operand}
use Rattle.ded_model.specs.declared.tuple.ThemeAtom.TheVariants.{EqSlot, NeSlot}
use Rattle.ded_model.specs.Sum.{SlotSum, denominator}
use Rattle.ded_model.specs.Coefs.{mixed, nonzero}
use Rattle.ded_model.specs.Point.{same_slot, same_sort}
use Rattle.ded_model.specs.Normal.{normal_row, IsNormalRow}
use Rattle.ded_model.specs.NormalGoal.{IsNormalGoalAtom, IsNormalGoal}
use Rattle.ded_model.specs.Logic.{atom, always, never, negation, every_of, some_of, implies, minus, exists, forall, Logics, none, also, AllAtomsOf, some_below, some_below_of, quantifiers}
use Rattle.ded_model.specs.Form.{Form, FormAtom, compare, member}
use Rattle.ded_model.specs.Goal.{GoalForm, theme}
use Rattle.ded_model.specs.Known.{KnownNames, IsAccepted, is_text_sum, scope_of}
use Rattle.ded_model.specs.Slotted.{SlotScope, heading_scope, slot_sum, difference_row, sums_goal, TextSide, at, word, text_side, same_slots_goal, other_slots_goal, same_text_goal, other_text_goal, texts_goal, is_text_operand, compare_goal, goal_below, goals_below, goal_of}
use Rattle.ded_model.proofs.LineCoefs.{nonzero-nonzero}
use Rattle.ded_row.proofs.Forms.{normal_row-normal}
use Rattle.ded_row.proofs.MixedLines.{nonzero_begins}
use Rattle.ded_resolve.specs.Scope.{sorts_of}
use Rattle.ded_resolve.specs.Tuples.{is_missorted_comparison, IsTextSide}
use Rattle.ded_resolve.proofs.Reading.{sorts_heading}
use Rattle.ded_resolve.proofs.Fitting.{text_sides}
use Rattle.ded_resolve.proofs.Accepted.{comparisons_of-accepted}
use Rattle.ded_model.proofs.Bools.{or_false_left, or_false_right}
use Rattle.ded_model.proofs.CoefLemmas.{is_lesser}
use Rattle.ded_model.proofs.SlotLists.{rational_no_text}

-- ---- sums

-- a difference has no coefficient that is 0
normal_difference : (l r : SlotSum) (op : RowOp) → IsNormalRow (normal_row (difference_row l r op))
normal_difference l r op =
    let cs = mixed (pos (denominator r.over)) l.coefs (neg_ℤ (pos (denominator l.over))) r.coefs in
    normal_row-normal (difference_row l r op) (nonzero_begins (nonzero cs) (nonzero-nonzero cs))

normal_sums : (l : SlotSum) (o : CompareOp) (r : SlotSum) → IsNormalGoal (sums_goal l o r)
normal_sums l Less r = normal_difference l r Below
normal_sums l LessEq r = normal_difference l r AtMost
normal_sums l Equal r = normal_difference l r Zero
normal_sums l NotEqual r = normal_difference l r Zero
normal_sums l GreaterEq r = normal_difference r l AtMost
normal_sums l Greater r = normal_difference r l Below

-- ---- texts

either_normal : (b : Bool) (g g' : GoalForm) → IsNormalGoal g → IsNormalGoal g' → IsNormalGoal (cond b g g')
either_normal true g g' h k = h
either_normal false g g' h k = k

-- two slots of texts that differ have different numbers
greater : (s t : Slot) → s.sort ≡ Text → t.sort ≡ Text → same_slot s t ≡ false → nat_lt s.number t.number ≡ false → t.number < s.number
greater s t h k e f = above s.number t.number (numbers (s.number == t.number) s.sort t.sort h k e) f
  where
    numbers : (b : Bool) (u v : Sort) → u ≡ Text → v ≡ Text → (b && same_sort u v) ≡ false → b ≡ false
    numbers false u v h k e = refl
    numbers true Text Text h k e = e
    numbers true Text Rat h k e = absurd (rational_no_text k)
    numbers true Rat v h k e = absurd (rational_no_text h)

    above : (m n : ℕ) → (m == n) ≡ false → nat_lt m n ≡ false → n < m
    above m n e f = grind (arith, nat_tests)

normal_same_slots : (s t : Slot) → s.sort ≡ Text → t.sort ≡ Text → IsNormalGoal (same_slots_goal s t)
normal_same_slots s t h k = go (same_slot s t) refl (nat_lt s.number t.number) refl
  where
    go : (b : Bool) → same_slot s t ≡ b → (d : Bool) → nat_lt s.number t.number ≡ d → IsNormalGoal (cond b always (cond d (atom (theme (EqSlot s t))) (atom (theme (EqSlot t s)))))
    go true e d f = tt
    go false e true f = (h, k, is_lesser s.number t.number f)
    go false e false f = (k, h, greater s t h k e f)

normal_other_slots : (s t : Slot) → s.sort ≡ Text → t.sort ≡ Text → IsNormalGoal (other_slots_goal s t)
normal_other_slots s t h k = go (same_slot s t) refl (nat_lt s.number t.number) refl
  where
    go : (b : Bool) → same_slot s t ≡ b → (d : Bool) → nat_lt s.number t.number ≡ d → IsNormalGoal (cond b never (cond d (atom (theme (NeSlot s t))) (atom (theme (NeSlot t s)))))
    go true e d f = tt
    go false e true f = (h, k, is_lesser s.number t.number f)
    go false e false f = (k, h, greater s t h k e f)

normal_same_text : (l r : TextSide) → IsTextSide l → IsTextSide r → IsNormalGoal (same_text_goal l r)
normal_same_text (at s) (at t) h k = normal_same_slots s t h k
normal_same_text (at s) (word t) h k = h
normal_same_text (word t) (at s) h k = k
normal_same_text (word t) (word u) h k = either_normal (bytes_eq t u) always never tt tt

normal_other_text : (l r : TextSide) → IsTextSide l → IsTextSide r → IsNormalGoal (other_text_goal l r)
normal_other_text (at s) (at t) h k = normal_other_slots s t h k
normal_other_text (at s) (word t) h k = h
normal_other_text (word t) (at s) h k = k
normal_other_text (word t) (word u) h k = either_normal (bytes_eq t u) never always tt tt

normal_texts : (l : TextSide) (o : CompareOp) (r : TextSide) → IsTextSide l → IsTextSide r → IsNormalGoal (texts_goal l o r)
normal_texts l Less r h k = tt
normal_texts l LessEq r h k = tt
normal_texts l Equal r h k = normal_same_text l r h k
normal_texts l NotEqual r h k = normal_other_text l r h k
normal_texts l GreaterEq r h k = tt
normal_texts l Greater r h k = tt

-- ---- formulas

normal_comparison : (scope : SlotScope) (l : Operand) (o : CompareOp) (r : Operand) → is_missorted_comparison (sorts_of scope) (compare l o r) ≡ false → IsNormalGoal (compare_goal scope l o r)
normal_comparison scope l o r e = go (is_text_operand scope l || is_text_operand scope r) refl
  where
    go : (b : Bool) → (is_text_operand scope l || is_text_operand scope r) ≡ b → IsNormalGoal (cond b (texts_goal (text_side scope l) o (text_side scope r)) (sums_goal (slot_sum scope l) o (slot_sum scope r)))
    go true f =
        let sides = text_sides scope l r o (or_false_right (is_text_sum (sorts_of scope) l || is_text_sum (sorts_of scope) r) _ e) f in
        normal_texts (text_side scope l) o (text_side scope r) sides.0 sides.1
    go false f = normal_sums (slot_sum scope l) o (slot_sum scope r)

mutual
  normal_below : (f : Form) (scope : SlotScope) (n : ℕ) → some_below is_missorted_comparison (sorts_of scope) f ≡ false → IsNormalGoal (goal_below scope n f)
  normal_below (atom (compare l o r)) scope n h = normal_comparison scope l o r h
  normal_below (atom (member x ts)) scope n h = tt
  normal_below always scope n h = tt
  normal_below never scope n h = tt
  normal_below (negation f) scope n h = normal_below f scope n h
  normal_below (every_of fs) scope n h = all_normal_below fs scope n h
  normal_below (some_of fs) scope n h = all_normal_below fs scope n h
  normal_below (implies f g) scope n h = (normal_below f scope n (or_false_left _ _ h), normal_below g scope (n + quantifiers f) (or_false_right (some_below is_missorted_comparison (sorts_of scope) f) _ h))
  normal_below (minus f g) scope n h = (normal_below f scope n (or_false_left _ _ h), normal_below g scope (n + quantifiers f) (or_false_right (some_below is_missorted_comparison (sorts_of scope) f) _ h))
  normal_below (exists s k f) scope n h = normal_below f ((k, record { number = n; sort = s }) ∷ scope) (n + 1) h
  normal_below (forall s k f) scope n h = normal_below f ((k, record { number = n; sort = s }) ∷ scope) (n + 1) h

  -- of a list
  all_normal_below : (fs : Logics FormAtom) (scope : SlotScope) (n : ℕ) → some_below_of is_missorted_comparison (sorts_of scope) fs ≡ false → AllAtomsOf IsNormalGoalAtom (goals_below scope n fs)
  all_normal_below none scope n h = tt
  all_normal_below (also f fs) scope n h = (normal_below f scope n (or_false_left _ _ h), all_normal_below fs scope (n + quantifiers f) (or_false_right (some_below is_missorted_comparison (sorts_of scope) f) _ h))

pub normal_goal : (h : List Column) (f : Form) → some_below is_missorted_comparison (scope_of h) f ≡ false → IsNormalGoal (goal_of h f)
unfolding goal_of
normal_goal h f e = normal_below f (heading_scope 0 h) (length h) (ap (λ s. some_below is_missorted_comparison s f) (sorts_heading 0 h) ∙ e)

pub accepted_goal : (known : KnownNames) (h : List Column) (f : Form) → IsAccepted known h f → IsNormalGoal (goal_of h f)
accepted_goal known h f a = normal_goal h f (comparisons_of-accepted known h f a.sorted)
