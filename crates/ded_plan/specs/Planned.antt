-- What is promised of the plan of a goal.
use Rattle.std.specs.Prelude.{◌≡◌, ◌↔◌, ◌≤◌, ℕ, true}
use Rattle.ded_model.specs.declared.slot.Sort.{Sort}
use Rattle.ded_model.specs.Point.{Key, Point, IsPoint}
use Rattle.ded_model.specs.Logic.{AllAtoms, conjunctive}
use Rattle.ded_model.specs.Goal.{GoalForm, goal_mentions}
use Rattle.ded_model.specs.PlanForm.{PlanForm, plan_mentions}
use Rattle.ded_model.specs.Catalogue.{Catalogue, GoalHolds, PlanHolds}
use Rattle.ded_model.specs.Lines.{IsSubset}
use Rattle.ded_model.specs.Measure.{Measures, goal_b, goal_rank, goal_lines, goal_clashes, plan_b, plan_rank, plan_lines, plan_clashes}
use Rattle.ded_model.specs.Pushed.{pushed}
use Rattle.ded_algebra.specs.Compiled.{ComesFrom, IsConjunctivePlan, HasSortsBy, IsOneSorted}
use Rattle.ded_plan.specs.Rewritten.{IsTidyPlan}

-- it is pushed and tidy and holds where the goal does over every catalogue, mentions freely only what the goal does, has lengths and a
-- rank of at most the goal's, lines among the goal's, and clashes only where the goal does; each of its atoms comes from one of the goal's.
-- Where in the goal each number has one sort, so it has in each part of the plan
pub record IsPlanned (g : GoalForm) (f : PlanForm) : Type 0 where
  pub holds : (c : Catalogue) (p : Point) → IsPoint p → GoalHolds c g p ↔ PlanHolds c f p
  pub slots : (k : Key) → plan_mentions f k ≡ true → goal_mentions g k ≡ true
  pub length : (M : Measures) → plan_b M f ≤ goal_b M g
  pub rank : (M : Measures) → plan_rank M f ≤ goal_rank M g
  pub lines : (M : Measures) → IsSubset (plan_lines M f) (goal_lines M g)
  pub clashes : (M : Measures) → plan_clashes M f ≡ true → goal_clashes M g ≡ true
  pub atoms : AllAtoms (ComesFrom g) f
  pub conjunctive : conjunctive g ≡ true → IsConjunctivePlan g f
  pub sorts : (sort_of : ℕ → Sort) → AllAtoms (HasSortsBy sort_of) g → IsOneSorted f
  pub pushed : pushed f ≡ true
  pub tidy : IsTidyPlan f
