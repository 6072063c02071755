-- What is gathered for the evaluation of a plan.
use Rattle.std.specs.Prelude.{◌≡◌, ◌↔◌, ◌<◌, ◌≤◌, ℕ, true, IsTrue, Some, List, ◌++◌, length}
use Rattle.std.specs.List.{AllByRecursion}
use Rattle.ded_model.specs.declared.name.Column.{Column}
use Rattle.ded_model.specs.declared.slot.Slot.{Slot}
use Rattle.ded_model.specs.Catalogue.{Catalogue, at_slots, meaning, GoalHolds, view}
use Rattle.ded_model.specs.Entries.{known, columns_in, entry_of}
use Rattle.ded_model.specs.Form.{Form, speaks_of}
use Rattle.ded_model.specs.Goal.{GoalForm, goal_mentions}
use Rattle.ded_model.specs.Known.{IsTupleOver, level_with}
use Rattle.ded_model.specs.Lines.{IsSubset, tuples_lines}
use Rattle.ded_model.specs.Made.{base}
use Rattle.ded_model.specs.Measure.{measures, goal_lines}
use Rattle.ded_model.specs.Normal.{IsNormalTuple}
use Rattle.ded_model.specs.PlanForm.{PlanForm}
use Rattle.ded_model.specs.Point.{slot, Point, IsPoint}
use Rattle.ded_model.specs.Row.{Atom, tuples_hold, tuples_mention}
use Rattle.ded_model.specs.Slotted.{goal_of}
use Rattle.ded_model.specs.Value.{Argument}
use Rattle.ded_plan.specs.Planned.{IsPlanned}
use Rattle.ded_algebra.specs.declared.given.GivenRelation.{GivenRelation}
use Rattle.ded_algebra.specs.Given.{has_name}
use Rattle.ded_views.specs.Same.{AreByteArguments}
use Rattle.ded_query.specs.Closing.{closing}
use Rattle.ded_query.specs.Questions.{IsQuestion}

-- ---- relations

-- the tuples that are given under the name hold where the name does over the catalogue, are over the columns of what it is made of,
-- and have lines among those of the name
pub record IsGivenOf (c : Catalogue) (r : GivenRelation) : Type 0 where
  pub columns : columns_in c (base r.name) ≡ r.heading
  pub over : AllByRecursion (IsTupleOver r.heading) r.tuples
  pub means : (d : ℕ) (xs : List Argument) → 0 < d → AreByteArguments xs → length xs ≡ length r.heading
      → meaning c r.name d xs ↔ IsTrue (tuples_hold r.tuples (record { den = d; coords = at_slots 0 r.heading xs }))
  pub lines : IsSubset (tuples_lines r.tuples) (measures c r.name).lines

-- all relations that are given are such, and each name that was given still is
pub record IsGathered (c : Catalogue) (old new : List GivenRelation) : Type 0 where
  pub of : AllByRecursion (IsGivenOf c) new
  pub kept : (n : List ℕ) → has_name n old ≡ true → has_name n new ≡ true

-- those that were given before stand at the front
pub record IsFront (old new : List GivenRelation) : Type 0 where
  pub more : List GivenRelation
  pub is : new ≡ old ++ more

-- ---- goals

-- the goal is that of a formula over some heading that is accepted over the names, maybe with quantifiers round it. Each name that the
-- formula speaks of has at most the level
pub record IsPosed (c : Catalogue) (g : GoalForm) (level : ℕ) : Type 0 where
  pub columns : List Column
  pub formula : Form
  pub round : List Slot
  pub inner : GoalForm
  pub is : g ≡ closing round inner
  pub question : IsQuestion c columns inner formula
  pub levels : (n : List ℕ) → speaks_of n formula ≡ true → level_with (known c n) ≤ level

-- the plan is one of such a goal
pub record IsPosedPlan (c : Catalogue) (plan : PlanForm) (level : ℕ) : Type 0 where
  pub goal : GoalForm
  pub posed : IsPosed c goal level
  pub planned : IsPlanned goal plan

-- tuples that hold exactly where the goal does over the catalogue, mention only slots that the goal mentions freely, and have lines
-- among the goal's
pub record IsEvaluated (c : Catalogue) (g : GoalForm) (ts : List (List Atom)) : Type 0 where
  pub holds : (p : Point) → IsPoint p → IsTrue (tuples_hold ts p) ↔ GoalHolds c g p
  pub slots : (s : Slot) → tuples_mention ts s ≡ true → goal_mentions g (slot s) ≡ true
  pub lines : IsSubset (tuples_lines ts) (goal_lines (measures c) g)

-- the name is a view, and the goal that of its formula
pub record IsViewGoal (c : Catalogue) (n : List ℕ) (g : GoalForm) : Type 0 where
  pub own : List ℕ
  pub columns : List Column
  pub formula : Form
  pub entry : entry_of c.entries n ≡ Some (view own columns formula)
  pub goal : g ≡ goal_of columns formula

-- the name is a view, and the plan one of its formula's goal
pub record IsViewPlan (c : Catalogue) (n : List ℕ) (plan : PlanForm) : Type 0 where
  pub goal : GoalForm
  pub view : IsViewGoal c n goal
  pub planned : IsPlanned goal plan

-- the name is a view, whose goal the tuples are evaluated from, and they are normal
pub record IsViewOf (c : Catalogue) (n : List ℕ) (ts : List (List Atom)) : Type 0 where
  pub goal : GoalForm
  pub view : IsViewGoal c n goal
  pub evaluated : IsEvaluated c goal ts
  pub normal : AllByRecursion IsNormalTuple ts

-- a relation of the name
pub record IsGivenAs (c : Catalogue) (n : List ℕ) (r : GivenRelation) : Type 0 where
  pub name : r.name ≡ n
  pub of : IsGivenOf c r
