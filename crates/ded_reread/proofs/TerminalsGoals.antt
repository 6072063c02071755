-- What the goals of comparisons are: those of numbers have normal rows without coefficients that are 0, and those of texts have no sums.
use Rattle.std.proofs.Common.{◌≡◌, ◌||◌, Bool, true, false, bytes_eq, refl, sym, subst, ap, ◌∙◌, true≢false}
use Rattle.std.specs.Prelude.{nat_lt, None, if◌then◌else◌}
use Rattle.ded_model.specs.declared.slot.Sort.{Sort}
use Rattle.ded_model.specs.declared.slot.Sort.TheVariants.{Rat, Text}
use Rattle.ded_model.specs.declared.formula.CompareOp.{CompareOp}
use Rattle.ded_model.specs.declared.formula.CompareOp.TheVariants.{Less, LessEq, Equal, NotEqual, GreaterEq, Greater}
use Rattle.ded_model.specs.declared.formula.Operand.{Operand}
use Rattle.ded_model.specs.declared.formula.Operand.TheVariants.{Single, Sum, Quoted}
use Rattle.ded_model.specs.Form.{FormAtom, compare}
use Rattle.ded_model.specs.Goal.{GoalForm}
use Rattle.ded_model.specs.Known.{KnownNames, operand_sort, is_text_sum, sorts_differ}
use Rattle.ded_model.specs.Logic.{always, never}
use Rattle.ded_model.specs.Normal.{normal_row}
use Rattle.ded_model.specs.Point.{same_slot}
use Rattle.ded_model.specs.Slotted.{SlotScope, slot_sum, comparison_row, sums_goal, TextSide, at, word, text_side, same_text_goal, other_text_goal, texts_goal, is_text_operand, compare_goal}
use Rattle.ded_model.specs.Sum.{SlotSum}
use Rattle.ded_model.proofs.Bools.{or_false_left, or_false_right}
use Rattle.ded_dump.specs.Comparisons.{below, row_of}
use Rattle.ded_resolve.specs.Scope.{sorts_of}
use Rattle.ded_model.specs.LongRows.{is_long_atom}
use Rattle.ded_model.specs.Plain.{IsPlainAtom}
use Rattle.ded_resolve.proofs.Fitting.{text_sort}
use Rattle.ded_algebra.proofs.PlanShapes.{or_one}
use Rattle.ded_print.specs.Tuples.{Names}
use Rattle.ded_reread.proofs.Below.{IsFine}
use Rattle.ded_reread.proofs.AtomsRead.{IsNoSum, IsGoalOf}
use Rattle.ded_reread.proofs.TerminalsRows.{IsCoefRow, compare_row}

-- ---- scopes

-- ---- comparisons of texts

number_first : (op : CompareOp) → sorts_differ op Rat Text ≡ true
number_first Less = refl
number_first LessEq = refl
number_first Equal = refl
number_first NotEqual = refl
number_first GreaterEq = refl
number_first Greater = refl

text_first : (op : CompareOp) → sorts_differ op Text Rat ≡ true
text_first Less = refl
text_first LessEq = refl
text_first Equal = refl
text_first NotEqual = refl
text_first GreaterEq = refl
text_first Greater = refl

no_sums : (scope : SlotScope) (l : Operand) (op : CompareOp) (r : Operand) → sorts_differ op (operand_sort (sorts_of scope) l) (operand_sort (sorts_of scope) r) ≡ false
    → (is_text_operand scope l || is_text_operand scope r) ≡ true → IsNoSum l × IsNoSum r
no_sums scope (Sum t) op r d e = absurd (true≢false (sym (number_first op) ∙ ap (sorts_differ op Rat) (sym (text_sort scope r e)) ∙ d))
no_sums scope (Single x) op (Sum u) d e =
    absurd (true≢false (sym (text_first op) ∙ ap (λ (s : Sort). sorts_differ op s Rat) (sym (text_sort scope (Single x) (or_one (is_text_operand scope (Single x)) e))) ∙ d))
no_sums scope (Quoted t) op (Sum u) d e = absurd (true≢false (sym (text_first op) ∙ d))
no_sums scope (Single x) op (Single y) d e = (tt, tt)
no_sums scope (Single x) op (Quoted u) d e = (tt, tt)
no_sums scope (Quoted t) op (Single y) d e = (tt, tt)
no_sums scope (Quoted t) op (Quoted u) d e = (tt, tt)

abbrev HasNoRow : GoalForm → Type 0
HasNoRow g = row_of (below g) ≡ None

either_none : (b : Bool) (g h : GoalForm) → HasNoRow g → HasNoRow h → HasNoRow (if b then g else h)
either_none true g h p q = p
either_none false g h p q = q

same_none : (l r : TextSide) → HasNoRow (same_text_goal l r)
same_none (at s) (at t) = either_none (same_slot s t) _ _ refl (either_none (nat_lt s.number t.number) _ _ refl refl)
same_none (at s) (word t) = refl
same_none (word t) (at s) = refl
same_none (word t) (word u) = either_none (bytes_eq t u) always never refl refl

other_none : (l r : TextSide) → HasNoRow (other_text_goal l r)
other_none (at s) (at t) = either_none (same_slot s t) _ _ refl (either_none (nat_lt s.number t.number) _ _ refl refl)
other_none (at s) (word t) = refl
other_none (word t) (at s) = refl
other_none (word t) (word u) = either_none (bytes_eq t u) never always refl refl

texts_none : (l : TextSide) (op : CompareOp) (r : TextSide) → HasNoRow (texts_goal l op r)
texts_none l Less r = refl
texts_none l LessEq r = refl
texts_none l Equal r = same_none l r
texts_none l NotEqual r = other_none l r
texts_none l GreaterEq r = refl
texts_none l Greater r = refl

-- ---- comparisons of numbers

sums_fit : (l : SlotSum) (op : CompareOp) (r : SlotSum) (a b : Operand) → IsCoefRow (normal_row (comparison_row l op r)) → IsGoalOf a b (row_of (below (sums_goal l op r)))
sums_fit l Less r a b h = h
sums_fit l LessEq r a b h = h
sums_fit l Equal r a b h = h
sums_fit l NotEqual r a b h = h
sums_fit l GreaterEq r a b h = h
sums_fit l Greater r a b h = h

-- ---- both

pub goal_fits : (K : KnownNames) (names : Names) (X : FormAtom → Type 0) (scope : SlotScope) (l : Operand) (op : CompareOp) (r : Operand) → IsFine K names X scope (compare l op r)
    → IsPlainAtom (compare l op r) → is_long_atom (compare l op r) ≡ false → IsGoalOf l r (row_of (below (compare_goal scope l op r)))
goal_fits K names X scope l op r h p s = go (is_text_operand scope l || is_text_operand scope r) refl
  where
    go : (b : Bool) → (is_text_operand scope l || is_text_operand scope r) ≡ b
        → IsGoalOf l r (row_of (below (if b then texts_goal (text_side scope l) op (text_side scope r) else sums_goal (slot_sum scope l) op (slot_sum scope r))))
    go true e =
        subst (IsGoalOf l r) (sym (texts_none (text_side scope l) op (text_side scope r)))
        (no_sums scope l op r (or_false_right (is_text_sum (sorts_of scope) l || is_text_sum (sorts_of scope) r) _ h.sorted) e)
    go false e =
        let n = or_false_left (is_text_operand scope l) (is_text_operand scope r) e in
        let m = or_false_right (is_text_operand scope l) (is_text_operand scope r) e in
        sums_fit (slot_sum scope l) op (slot_sum scope r) l r (compare_row K names X scope l op r h n m p s)
