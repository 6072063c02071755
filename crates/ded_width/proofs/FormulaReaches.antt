-- A narrow formula is tight.
use Rattle.std.proofs.Common.{◌≡◌, ◌≤◌, false, List}
use Rattle.ded_model.specs.declared.name.Column.{Column}
use Rattle.ded_model.specs.Form.{Form}
use Rattle.ded_model.specs.Catalogue.{Catalogue}
use Rattle.ded_model.specs.Entries.{known}
use Rattle.ded_model.specs.Known.{IsAccepted, IsWellFormed}
use Rattle.ded_model.specs.Slotted.{goal_of}
use Rattle.ded_model.specs.PlanForm.{PlanForm}
use Rattle.ded_model.specs.Measure.{goal_b, goal_rank, goal_lines, plan_b, plan_rank, plan_clashes, measures, IsNarrow, IsTight}
use Rattle.ded_width.specs.Reach.{AreWithinReach, IsAscendingPlan}
use Rattle.ded_width.proofs.Reaches.{narrow_with_less}
use Rattle.ded_width.proofs.PlanReaches.{plan_tight}
use Rattle.ded_width.proofs.GoalReaches.{goal_within, goal_tight}
use Rattle.ded_width.proofs.NameReaches.{names_in_reach}
use Rattle.ded_width.proofs.AscendingGoals.{accepted_ascending}

pub formula_within : (c : Catalogue) → IsWellFormed c → (h : List Column) (f : Form) → IsAccepted (known c) h f
    → AreWithinReach (goal_b (measures c) (goal_of h f)) (goal_rank (measures c) (goal_of h f)) (goal_lines (measures c) (goal_of h f))
formula_within c w h f a = goal_within (measures c) (names_in_reach c w) (goal_of h f) (accepted_ascending (known c) h f a.sorted)

pub formula_tight : (c : Catalogue) → IsWellFormed c → (h : List Column) (f : Form) → IsAccepted (known c) h f → IsNarrow c h f → IsTight c h f
unfolding IsNarrow IsTight
formula_tight c w h f a n = goal_tight (measures c) (names_in_reach c w) (goal_of h f) (accepted_ascending (known c) h f a.sorted) n

-- so is each plan that is no wider
pub formula_plan_tight : (c : Catalogue) → IsWellFormed c → (h : List Column) (f : Form) → IsNarrow c h f
    → (plan : PlanForm) → IsAscendingPlan plan → plan_b (measures c) plan ≤ goal_b (measures c) (goal_of h f) → plan_rank (measures c) plan ≤ goal_rank (measures c) (goal_of h f)
    → plan_clashes (measures c) plan ≡ false
unfolding IsNarrow
formula_plan_tight c w h f n plan a b r = plan_tight (measures c) (names_in_reach c w) plan a (narrow_with_less _ _ _ _ b r n)
