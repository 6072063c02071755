-- The rows and sums of the goal of a formula ascend, where no text variable stands in a sum.
use Rattle.std.proofs.Common.{◌≡◌, ℕ, ◌+◌, ◌||◌, Bool, true, false, cond, List, [], ◌∷◌, map, refl, ap, ◌∙◌}
use Rattle.std.specs.Prelude.{ℤ, pos}
use lib.IntN.{neg_ℤ}
use Rattle.std.specs.List.{list_any}
use Rattle.ded_model.specs.declared.slot.Sort.TheVariants.{Text}
use Rattle.ded_model.specs.declared.name.Column.{Column}
use Rattle.ded_model.specs.declared.row.RowOp.{RowOp}
use Rattle.ded_model.specs.declared.row.RowOp.TheVariants.{Zero, AtMost, Below}
use Rattle.ded_model.specs.declared.formula.CompareOp.{CompareOp}
use Rattle.ded_model.specs.declared.formula.CompareOp.TheVariants.{Less, LessEq, Equal, NotEqual, GreaterEq, Greater}
use Rattle.ded_model.specs.declared.formula.Operand.{Operand}
use Rattle.ded_model.specs.declared.formula.Operand.TheVariants.{Single, Sum, Quoted}
use Rattle.ded_model.specs.Point.{same_sort}
use Rattle.ded_model.specs.Sum.{SlotSum, denominator}
use Rattle.ded_model.specs.Coefs.{mixed, nonzero}
use Rattle.ded_model.specs.Logic.{atom, always, never, negation, every_of, some_of, implies, minus, exists, forall, Logics, none, also, AllAtomsOf, some_below, some_below_of, quantifiers}
use Rattle.ded_model.specs.Form.{Form, FormAtom, compare, member}
use Rattle.ded_model.specs.Slotted.{SlotScope, slot_of, heading_scope, add_parts, slot_sum, difference_row, comparison_row, sums_goal, TextSide, text_side, texts_goal, is_text_operand, compare_goal, place_of, goal_below, goals_below, goal_of}
use Rattle.ded_model.specs.Known.{KnownNames, has_missorted, sort_in, is_text_sum}
use Rattle.ded_resolve.specs.TextSums.{has_text_sum}
use Rattle.ded_resolve.specs.Scope.{sorts_of}
use Rattle.ded_resolve.proofs.Ascending.{AllRational, ascend-mixed, ascend-nonzero}
use Rattle.ded_resolve.proofs.Accepted.{sums_of-accepted}
use Rattle.ded_resolve.proofs.Reading.{sorts_heading}
use Rattle.ded_width.specs.Reach.{AreAscending, AreAscendingPlaces, IsAscendingGoalAtom, IsAscendingGoal}
use Rattle.ded_model.proofs.Comparisons.{texts_have}
use Rattle.ded_width.proofs.ArgumentSlots.{ascend, all_rational, normal_ascending}
use Rattle.ded_model.proofs.Bools.{or_false_left, or_false_right}
use Rattle.ded_model.proofs.SlotLists.{rational}
use Rattle.ded_resolve.proofs.Shared.{parts_ascend}

-- ---- sums

-- a sum without text variables
sum_ascends : (scope : SlotScope) (cs : List (List ℕ × ℤ)) → list_any (λ c. same_sort (sort_in (sorts_of scope) c.0) Text) cs ≡ false → AreAscending (nonzero (add_parts scope cs))
sum_ascends scope cs h = ascend _ (ascend-nonzero (add_parts scope cs) (parts_ascend scope cs h))

-- an operand that is no text
operand_rational : (scope : SlotScope) (t : Operand) → is_text_sum (sorts_of scope) t ≡ false → is_text_operand scope t ≡ false → AllRational (slot_sum scope t).coefs
operand_rational scope (Single x) s e = (rational (slot_of scope x).sort e, tt)
operand_rational scope (Sum t) s e = all_rational _ (sum_ascends scope t.parts s)
operand_rational scope (Quoted t) s e = tt

-- ---- comparisons

difference_ascends : (l r : SlotSum) (op : RowOp) → AllRational l.coefs → AllRational r.coefs → AreAscending (difference_row l r op).coefs
difference_ascends l r op h k =
    let cs = mixed (pos (denominator r.over)) l.coefs (neg_ℤ (pos (denominator l.over))) r.coefs in
    ascend (nonzero cs) (ascend-nonzero cs (ascend-mixed (pos (denominator r.over)) l.coefs (neg_ℤ (pos (denominator l.over))) r.coefs h k))

comparison_ascends : (l r : SlotSum) (op : CompareOp) → AllRational l.coefs → AllRational r.coefs → AreAscending (comparison_row l op r).coefs
comparison_ascends l r Less h k = difference_ascends l r Below h k
comparison_ascends l r LessEq h k = difference_ascends l r AtMost h k
comparison_ascends l r Equal h k = difference_ascends l r Zero h k
comparison_ascends l r NotEqual h k = difference_ascends l r Zero h k
comparison_ascends l r GreaterEq h k = difference_ascends r l AtMost k h
comparison_ascends l r Greater h k = difference_ascends r l Below k h

sums_ascend : (l r : SlotSum) (op : CompareOp) → AllRational l.coefs → AllRational r.coefs → IsAscendingGoal (sums_goal l op r)
sums_ascend l r Less h k = normal_ascending _ (comparison_ascends l r Less h k)
sums_ascend l r LessEq h k = normal_ascending _ (comparison_ascends l r LessEq h k)
sums_ascend l r Equal h k = normal_ascending _ (comparison_ascends l r Equal h k)
sums_ascend l r NotEqual h k = normal_ascending _ (comparison_ascends l r NotEqual h k)
sums_ascend l r GreaterEq h k = normal_ascending _ (comparison_ascends l r GreaterEq h k)
sums_ascend l r Greater h k = normal_ascending _ (comparison_ascends l r Greater h k)

-- a comparison of texts has no row
texts_ascend : (l r : TextSide) (op : CompareOp) → IsAscendingGoal (texts_goal l op r)
texts_ascend = texts_have IsAscendingGoal (record { holds = tt; fails = tt; text = λ a. tt })

compare_ascends : (scope : SlotScope) (l r : Operand) (op : CompareOp) → (is_text_sum (sorts_of scope) l || is_text_sum (sorts_of scope) r) ≡ false → IsAscendingGoal (compare_goal scope l op r)
compare_ascends scope l r op h = go (is_text_operand scope l || is_text_operand scope r) refl
  where
    go : (b : Bool) → (is_text_operand scope l || is_text_operand scope r) ≡ b
        → IsAscendingGoal (cond b (texts_goal (text_side scope l) op (text_side scope r)) (sums_goal (slot_sum scope l) op (slot_sum scope r)))
    go true e = texts_ascend (text_side scope l) (text_side scope r) op
    go false e =
        sums_ascend (slot_sum scope l) (slot_sum scope r) op (operand_rational scope l (or_false_left _ _ h) (or_false_left _ _ e))
        (operand_rational scope r (or_false_right (is_text_sum (sorts_of scope) l) _ h) (or_false_right (is_text_operand scope l) _ e))

-- ---- arguments

places_ascend : (scope : SlotScope) (ts : List Operand) → list_any (is_text_sum (sorts_of scope)) ts ≡ false → AreAscendingPlaces (map (place_of scope) ts)
places_ascend scope [] h = tt
places_ascend scope (Single x ∷ ts) h = places_ascend scope ts (or_false_right (is_text_sum (sorts_of scope) (Single x)) _ h)
places_ascend scope (Sum t ∷ ts) h = (sum_ascends scope t.parts (or_false_left _ _ h), places_ascend scope ts (or_false_right (is_text_sum (sorts_of scope) (Sum t)) _ h))
places_ascend scope (Quoted t ∷ ts) h = places_ascend scope ts (or_false_right (is_text_sum (sorts_of scope) (Quoted t)) _ h)

-- ---- formulas

mutual
  goal_ascends : (scope : SlotScope) (n : ℕ) (f : Form) → some_below has_text_sum (sorts_of scope) f ≡ false → IsAscendingGoal (goal_below scope n f)
  goal_ascends scope n (atom (compare l op r)) h = compare_ascends scope l r op h
  goal_ascends scope n (atom (member m ts)) h = places_ascend scope ts h
  goal_ascends scope n always h = tt
  goal_ascends scope n never h = tt
  goal_ascends scope n (negation f) h = goal_ascends scope n f h
  goal_ascends scope n (every_of fs) h = goals_ascend scope n fs h
  goal_ascends scope n (some_of fs) h = goals_ascend scope n fs h
  goal_ascends scope n (implies f g) h = (goal_ascends scope n f (or_false_left _ _ h), goal_ascends scope (n + quantifiers f) g (or_false_right (some_below has_text_sum (sorts_of scope) f) _ h))
  goal_ascends scope n (minus f g) h = (goal_ascends scope n f (or_false_left _ _ h), goal_ascends scope (n + quantifiers f) g (or_false_right (some_below has_text_sum (sorts_of scope) f) _ h))
  goal_ascends scope n (exists s k f) h = goal_ascends ((k, record { number = n; sort = s }) ∷ scope) (n + 1) f h
  goal_ascends scope n (forall s k f) h = goal_ascends ((k, record { number = n; sort = s }) ∷ scope) (n + 1) f h

  -- of a list
  goals_ascend : (scope : SlotScope) (n : ℕ) (fs : Logics FormAtom) → some_below_of has_text_sum (sorts_of scope) fs ≡ false → AllAtomsOf IsAscendingGoalAtom (goals_below scope n fs)
  goals_ascend scope n none h = tt
  goals_ascend scope n (also f fs) h = (goal_ascends scope n f (or_false_left _ _ h), goals_ascend scope (n + quantifiers f) fs (or_false_right (some_below has_text_sum (sorts_of scope) f) _ h))

-- the goal of a formula in which no text stands where a number has to
pub accepted_ascending : (K : KnownNames) (h : List Column) (f : Form) → has_missorted K h f ≡ false → IsAscendingGoal (goal_of h f)
unfolding goal_of
accepted_ascending K h f e = goal_ascends (heading_scope 0 h) _ f (ap (λ scope. some_below has_text_sum scope f) (sorts_heading 0 h) ∙ sums_of-accepted K h f e)
