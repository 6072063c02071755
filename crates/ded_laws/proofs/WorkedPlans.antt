-- Worked goals and plans, and whether they hold at a point: each is a theorem on the definition, which computes the answer.
use Rattle.std.proofs.Common.{ℕ, List, [], ◌∷◌, refl}
use Rattle.std.specs.Prelude.{ℤ, pos, negsuc}
use Rattle.ded_model.specs.declared.slot.Sort.{Sort}
use Rattle.ded_model.specs.declared.slot.Sort.TheVariants.{Rat, Text}
use Rattle.ded_model.specs.declared.slot.Slot.{Slot}
use Rattle.ded_model.specs.declared.name.Column.{Column}
use Rattle.ded_model.specs.declared.goal.Place.TheVariants.{At, Value}
use Rattle.ded_model.specs.declared.row.RowOp.{RowOp}
use Rattle.ded_model.specs.declared.row.RowOp.TheVariants.{Zero, AtMost, Below}
use Rattle.ded_model.specs.declared.tuple.ThemeAtom.TheVariants.{EqText, NeText}
use Rattle.ded_model.specs.declared.tuple.BothAtom.TheVariants.{First, Second}
use Rattle.ded_model.specs.Constraint.{LinearConstraint}
use Rattle.ded_model.specs.Goal.{linear, theme, member, GoalForm}
use Rattle.ded_model.specs.Logic.{atom, every_of, some_of, implies, minus, exists, forall, none}
use Rattle.ded_model.specs.PlanForm.{scan, rows, PlanForm}
use Rattle.ded_model.specs.Point.{slot, number, text, Point}
use Rattle.ded_model.specs.Catalogue.{relation, Catalogue, origin, GoalHolds, PlanHolds}
use Rattle.ded_laws.proofs.Computing.{goal_test, plan_test, goal_holds, goal_fails, plan_holds, plan_fails}

abbrev slot_of : ℕ → Sort → Slot
slot_of i s = record { number = i; sort = s }

abbrev x : Slot
x = slot_of 0 Rat

abbrev y : Slot
y = slot_of 1 Rat

abbrev n : Slot
n = slot_of 2 Text

abbrev constraint : List (Slot × ℤ) → ℤ → RowOp → LinearConstraint
constraint cs c op = record { coefs = cs; constant = c; op = op }

abbrev t_name : List ℕ
t_name = 84 ∷ []

abbrev r_name : List ℕ
r_name = 82 ∷ []

abbrev column : ℕ → Sort → Column
column c s = record { name = c ∷ []; sort = s }

-- T(x, y) = {x > 0, y >= 0, x + 2*y <= 4}, and R(n text, x) = {n = 'a', 2*x = 1}
abbrev two_relations : Catalogue
two_relations = record {
  limit = 100;
  entries = relation t_name (column 120 Rat ∷ column 121 Rat ∷ []) 1 ((
    1,
    First (constraint ((x, negsuc 0) ∷ []) (pos 0) Below) ∷ First (constraint ((y, negsuc 0) ∷ []) (pos 0) AtMost) ∷ First (constraint ((x, pos 1) ∷ (y, pos 2) ∷ []) (negsuc 3) AtMost) ∷ [],
  ) ∷ [])
      ∷ relation r_name (column 110 Text ∷ column 120 Rat ∷ []) 1 ((1, Second (EqText (slot_of 0 Text) (97 ∷ [])) ∷ First (constraint ((y, pos 2) ∷ []) (negsuc 0) Zero) ∷ []) ∷ [])
      ∷ [];
}

abbrev at_two : ℤ → ℤ → Point
at_two a b = record { den = 1; coords = (slot x, number a) ∷ (slot y, number b) ∷ [] }

-- ---- plans
abbrev scanned : PlanForm
scanned = atom (scan t_name (x ∷ y ∷ []))

-- the columns are read into the slots in order
scan_reads_in_order : ¬ PlanHolds two_relations scanned (at_two (pos 1) (pos 2))
unfolding plan_test
scan_reads_in_order = plan_fails two_relations scanned (at_two (pos 1) (pos 2)) refl

scan_may_exchange : PlanHolds two_relations (atom (scan t_name (y ∷ x ∷ []))) (at_two (pos 1) (pos 2))
unfolding plan_test
scan_may_exchange = plan_holds two_relations (atom (scan t_name (y ∷ x ∷ []))) (at_two (pos 1) (pos 2)) refl

-- without the second column x is above 0 and at most 4
projected_at_four : PlanHolds two_relations (exists Rat (slot y) scanned) (at_two (pos 4) (pos 9))
unfolding plan_test
projected_at_four = plan_holds two_relations (exists Rat (slot y) scanned) (at_two (pos 4) (pos 9)) refl

not_projected_at_five : ¬ PlanHolds two_relations (exists Rat (slot y) scanned) (at_two (pos 5) (pos 0))
unfolding plan_test
not_projected_at_five = plan_fails two_relations (exists Rat (slot y) scanned) (at_two (pos 5) (pos 0)) refl

-- T without x <= 1
abbrev remaining : PlanForm
remaining = minus scanned (atom (rows (First (constraint ((x, pos 1) ∷ []) (negsuc 0) AtMost) ∷ [])))

remains_at_two : PlanHolds two_relations remaining (at_two (pos 2) (pos 1))
unfolding plan_test
remains_at_two = plan_holds two_relations remaining (at_two (pos 2) (pos 1)) refl

taken_at_one : ¬ PlanHolds two_relations remaining (at_two (pos 1) (pos 1))
unfolding plan_test
taken_at_one = plan_fails two_relations remaining (at_two (pos 1) (pos 1)) refl

-- an empty join is the whole space, an empty union nothing
empty_join : PlanHolds two_relations (every_of none) (at_two (pos 1) (pos 1))
unfolding plan_test
empty_join = plan_holds two_relations (every_of none) (at_two (pos 1) (pos 1)) refl

empty_union : ¬ PlanHolds two_relations (some_of none) (at_two (pos 1) (pos 1))
unfolding plan_test
empty_union = plan_fails two_relations (some_of none) (at_two (pos 1) (pos 1)) refl

-- a text, and 1/2
abbrev text_and_half : List ℕ → Point
text_and_half t = record { den = 2; coords = (slot n, text t) ∷ (slot x, number (pos 1)) ∷ [] }

scan_reads_texts : PlanHolds two_relations (atom (scan r_name (n ∷ x ∷ []))) (text_and_half (97 ∷ []))
unfolding plan_test
scan_reads_texts = plan_holds two_relations (atom (scan r_name (n ∷ x ∷ []))) (text_and_half (97 ∷ [])) refl

scan_tells_texts_apart : ¬ PlanHolds two_relations (atom (scan r_name (n ∷ x ∷ []))) (text_and_half (98 ∷ []))
unfolding plan_test
scan_tells_texts_apart = plan_fails two_relations (atom (scan r_name (n ∷ x ∷ []))) (text_and_half (98 ∷ [])) refl

-- a rational slot is read as a number, also where a text stands
abbrev misplaced : Point
misplaced = record { den = 2; coords = (slot y, text (97 ∷ [])) ∷ (slot x, number (pos 1)) ∷ [] }

sort_of_slot_decides : ¬ PlanHolds two_relations (atom (scan r_name (y ∷ x ∷ []))) misplaced
unfolding plan_test
sort_of_slot_decides = plan_fails two_relations (atom (scan r_name (y ∷ x ∷ []))) misplaced refl

-- ---- goals
-- T(x, x/2)
abbrev with_half : GoalForm
with_half = atom (member t_name (At x ∷ Value (record { coefs = (x, pos 1) ∷ []; constant = pos 0; over = pos 2 }) ∷ []))

place_over_two_at_two : GoalHolds two_relations with_half (at_two (pos 2) (pos 0))
unfolding goal_test
place_over_two_at_two = goal_holds two_relations with_half (at_two (pos 2) (pos 0)) refl

place_over_two_at_three : ¬ GoalHolds two_relations with_half (at_two (pos 3) (pos 0))
unfolding goal_test
place_over_two_at_three = goal_fails two_relations with_half (at_two (pos 3) (pos 0)) refl

-- forall x forall y (T(x, y) implies y < 2), and with 1 in place of 2
abbrev all_below : ℤ → GoalForm
all_below c = forall Rat (slot x) (forall Rat (slot y) (implies (atom (member t_name (At x ∷ At y ∷ []))) (atom (linear (constraint ((y, pos 1) ∷ []) c Below)))))

all_are_below_two : GoalHolds two_relations (all_below (negsuc 1)) origin
unfolding goal_test
all_are_below_two = goal_holds two_relations (all_below (negsuc 1)) origin refl

not_all_are_below_one : ¬ GoalHolds two_relations (all_below (negsuc 0)) origin
unfolding goal_test
not_all_are_below_one = goal_fails two_relations (all_below (negsuc 0)) origin refl

-- exists n text (n != 'a')
abbrev other_text : GoalForm
other_text = exists Text (slot n) (atom (theme (NeText n (97 ∷ []))))

some_text_is_other : GoalHolds two_relations other_text origin
unfolding goal_test
some_text_is_other = goal_holds two_relations other_text origin refl
