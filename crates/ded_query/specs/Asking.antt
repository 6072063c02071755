-- Plans that ask only whether a view has a point, and the closed goal that answers them.
use Rattle.std.specs.Prelude.{◌≡◌, ◌↔◌, ℕ, Bool, true, false, ◌||◌, IsTrue, is_some, List, []}
use Rattle.std.specs.List.{AllByRecursion}
use Rattle.ded_model.specs.declared.slot.Slot.{Slot}
use Rattle.ded_model.specs.Catalogue.{Catalogue, GoalHolds}
use Rattle.ded_model.specs.Entries.{entry_of, view_in}
use Rattle.ded_model.specs.Goal.{GoalForm}
use Rattle.ded_model.specs.Known.{heading_slots}
use Rattle.ded_model.specs.Lines.{tuples_lines}
use Rattle.ded_model.specs.Logic.{atom, always, never, negation, every_of, some_of, implies, minus, exists, forall}
use Rattle.ded_model.specs.PlanForm.{PlanForm, scan}
use Rattle.ded_model.specs.Point.{slot, same_key, stands_in, Point, IsPoint}
use Rattle.ded_model.specs.Row.{Atom, tuples_hold, tuples_mention}
use Rattle.ded_plan.specs.Planned.{IsPlanned}
use Rattle.ded_query.specs.Closing.{closing}
use Rattle.ded_query.specs.Gathering.{IsViewGoal}

-- ---- plans

-- one of the projections that the plan begins with is of the slot
abbrev pub projects : PlanForm → Slot → Bool
projects (atom a) u = false
projects always u = false
projects never u = false
projects (negation f) u = false
projects (every_of fs) u = false
projects (some_of fs) u = false
projects (implies f g) u = false
projects (minus f g) u = false
projects (exists s k f) u = same_key k (slot u) || projects f u
projects (forall s k f) u = false

-- the plan is made of projections round a scan
pub record IsRoundScan (f : PlanForm) (n : List ℕ) (ss : List Slot) : Type 0 where
  pub projected : List Slot
  pub is : f ≡ closing projected (atom (scan n ss))

-- and they project all slots of the scan, which is of the name
pub record IsAsking (f : PlanForm) (n : List ℕ) : Type 0 where
  pub slots : List Slot
  pub round : IsRoundScan f n slots
  pub all : AllByRecursion (λ s. stands_in round.projected s ≡ true) slots

-- so of a view
pub record IsAskedView (c : Catalogue) (f : PlanForm) (n : List ℕ) : Type 0 where
  pub asking : IsAsking f n
  pub view : is_some (view_in (entry_of c.entries n)) ≡ true

-- ---- goals

-- the name is a view, and the goal that of its formula with a quantifier for each column
pub record IsClosedView (c : Catalogue) (n : List ℕ) (g : GoalForm) : Type 0 where
  pub goal : GoalForm
  pub view : IsViewGoal c n goal
  pub is : g ≡ closing (heading_slots 0 view.columns) goal

-- and the plan one of this goal
pub record IsClosedPlan (c : Catalogue) (n : List ℕ) (f : PlanForm) : Type 0 where
  pub goal : GoalForm
  pub closed : IsClosedView c n goal
  pub planned : IsPlanned goal f

-- whether the view has a point
pub record IsWitness (c : Catalogue) (n : List ℕ) (b : Bool) : Type 0 where
  pub goal : GoalForm
  pub closed : IsClosedView c n goal
  pub holds : (p : Point) → IsPoint p → IsTrue b ↔ GoalHolds c goal p

-- ---- tuples

-- they hold everywhere or nowhere, as said, and mention no slot
pub record IsTruthOf (b : Bool) (ts : List (List Atom)) : Type 0 where
  pub holds : (p : Point) → tuples_hold ts p ≡ b
  pub slots : (s : Slot) → tuples_mention ts s ≡ false
  pub lines : tuples_lines ts ≡ []
