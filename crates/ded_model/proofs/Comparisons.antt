-- What the goal of a comparison can be: a truth, a text atom, a row, or the negation of a row.
use Rattle.std.proofs.Common.{nat_lt, Bool, true, false, ◌||◌, cond, bytes_eq}
use Rattle.ded_model.specs.declared.formula.CompareOp.{CompareOp}
use Rattle.ded_model.specs.declared.formula.CompareOp.TheVariants.{Less, LessEq, Equal, NotEqual, GreaterEq, Greater}
use Rattle.ded_model.specs.declared.formula.Operand.{Operand}
use Rattle.ded_model.specs.declared.tuple.ThemeAtom.{ThemeAtom}
use Rattle.ded_model.specs.declared.tuple.ThemeAtom.TheVariants.{EqText, NeText, EqSlot, NeSlot}
use Rattle.ded_model.specs.Constraint.{LinearConstraint}
use Rattle.ded_model.specs.Goal.{GoalForm, linear, theme}
use Rattle.ded_model.specs.Logic.{atom, always, never, negation}
use Rattle.ded_model.specs.Normal.{normal_row}
use Rattle.ded_model.specs.Point.{same_slot}
use Rattle.ded_model.specs.Slotted.{SlotScope, slot_sum, comparison_row, sums_goal, TextSide, at, word, text_side, same_text_goal, other_text_goal, texts_goal, is_text_operand, compare_goal}
use Rattle.ded_model.specs.Sum.{SlotSum}

-- what truths and text atoms have
pub record IsOfTexts (P : GoalForm → Type 0) : Type 0 where
  pub holds : P always
  pub fails : P never
  pub text : (a : ThemeAtom) → P (atom (theme a))

-- and what rows and negated rows have
pub record IsOfRows (P : GoalForm → Type 0) : Type 0 where
  pub row : (r : LinearConstraint) → P (atom (linear r))
  pub other : (r : LinearConstraint) → P (negation (atom (linear r)))

module _ (P : GoalForm → Type 0) (h : IsOfTexts P) where
  -- a choice of goals
  either : (b : Bool) (g k : GoalForm) → P g → P k → P (cond b g k)
  either true g k x y = x
  either false g k x y = y

  same_texts : (l r : TextSide) → P (same_text_goal l r)
  same_texts (at s) (at t) =
      let in_order = cond (nat_lt s.number t.number) (atom (theme (EqSlot s t))) (atom (theme (EqSlot t s))) in
      either (same_slot s t) always in_order h.holds (either (nat_lt s.number t.number) (atom (theme (EqSlot s t))) (atom (theme (EqSlot t s))) (h.text (EqSlot s t)) (h.text (EqSlot t s)))
  same_texts (at s) (word t) = h.text (EqText s t)
  same_texts (word t) (at s) = h.text (EqText s t)
  same_texts (word t) (word u) = either (bytes_eq t u) always never h.holds h.fails

  other_texts : (l r : TextSide) → P (other_text_goal l r)
  other_texts (at s) (at t) =
      let in_order = cond (nat_lt s.number t.number) (atom (theme (NeSlot s t))) (atom (theme (NeSlot t s))) in
      either (same_slot s t) never in_order h.fails (either (nat_lt s.number t.number) (atom (theme (NeSlot s t))) (atom (theme (NeSlot t s))) (h.text (NeSlot s t)) (h.text (NeSlot t s)))
  other_texts (at s) (word t) = h.text (NeText s t)
  other_texts (word t) (at s) = h.text (NeText s t)
  other_texts (word t) (word u) = either (bytes_eq t u) never always h.fails h.holds

  -- the goal of a comparison of texts has it
  pub texts_have : (l r : TextSide) (op : CompareOp) → P (texts_goal l op r)
  texts_have l r Less = h.fails
  texts_have l r LessEq = h.fails
  texts_have l r Equal = same_texts l r
  texts_have l r NotEqual = other_texts l r
  texts_have l r GreaterEq = h.fails
  texts_have l r Greater = h.fails

  -- and where rows have it, so has that of each comparison
  module _ (k : IsOfRows P) where
    sums_have : (l r : SlotSum) (op : CompareOp) → P (sums_goal l op r)
    sums_have l r Less = k.row (normal_row (comparison_row l Less r))
    sums_have l r LessEq = k.row (normal_row (comparison_row l LessEq r))
    sums_have l r Equal = k.row (normal_row (comparison_row l Equal r))
    sums_have l r NotEqual = k.other (normal_row (comparison_row l NotEqual r))
    sums_have l r GreaterEq = k.row (normal_row (comparison_row l GreaterEq r))
    sums_have l r Greater = k.row (normal_row (comparison_row l Greater r))

    pub comparison_has : (scope : SlotScope) (l r : Operand) (op : CompareOp) → P (compare_goal scope l op r)
    comparison_has scope l r op =
        either (is_text_operand scope l || is_text_operand scope r) (texts_goal (text_side scope l) op (text_side scope r)) (sums_goal (slot_sum scope l) op (slot_sum scope r))
        (texts_have (text_side scope l) (text_side scope r) op) (sums_have (slot_sum scope l) (slot_sum scope r) op)
