-- Lists of a view from which only points were taken, where a relation loses a tuple.
use Rattle.std.specs.Prelude.{◌≡◌, ◌↔◌, ℕ, true, IsTrue, List, ◌++◌}
use Rattle.std.specs.List.{AllByRecursion}
use Rattle.ded_model.specs.declared.slot.Slot.{Slot}
use Rattle.ded_model.specs.Catalogue.{Catalogue, GoalHolds}
use Rattle.ded_model.specs.Goal.{GoalForm, goal_mentions}
use Rattle.ded_model.specs.Lines.{Line, IsSubset, tuples_lines}
use Rattle.ded_model.specs.Measure.{measures, goal_lines}
use Rattle.ded_model.specs.Normal.{IsNormalTuple}
use Rattle.ded_model.specs.Point.{slot, Point, IsPoint}
use Rattle.ded_model.specs.Row.{Atom, tuples_hold, tuples_mention}
use Rattle.ded_query.specs.Gathering.{IsViewGoal}

-- the tuples have lines among those that the view's goal has after, and others
abbrev pub HasLinesBut : Catalogue → Catalogue → List ℕ → List Line → List (List Atom) → Type 0
HasLinesBut c d v more ts = (g : GoalForm) → IsViewGoal c v g → IsSubset (tuples_lines ts) (goal_lines (measures d) g ++ more)

-- the list of the view, but for its lines: some may be among the others
pub record IsViewBut (c : Catalogue) (n : List ℕ) (more : List Line) (ts : List (List Atom)) : Type 0 where
  pub goal : GoalForm
  pub view : IsViewGoal c n goal
  pub holds : (p : Point) → IsPoint p → IsTrue (tuples_hold ts p) ↔ GoalHolds c goal p
  pub slots : (s : Slot) → tuples_mention ts s ≡ true → goal_mentions goal (slot s) ≡ true
  pub lines : IsSubset (tuples_lines ts) (goal_lines (measures c) goal ++ more)
  pub normal : AllByRecursion IsNormalTuple ts
