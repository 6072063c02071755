-- The plan of the goal of an accepted formula is a plan of the formula.
use Rattle.std.proofs.Common.{◌≡◌, ℕ, ◌+◌, ◌<◌, true, List, [], ◌∷◌}
use Rattle.std.specs.Prelude.{◌↔◌}
use Rattle.ded_model.specs.declared.slot.Slot.{Slot}
use Rattle.ded_model.specs.declared.slot.Sort.{Sort}
use Rattle.ded_model.specs.declared.slot.Sort.TheVariants.{Rat, Text}
use Rattle.ded_model.specs.declared.name.Column.{Column}
use Rattle.ded_model.specs.Catalogue.{Catalogue, argument_coordinate, at_slots, at_names, meaning, Holds, PlanHolds}
use Rattle.ded_model.specs.Entries.{known}
use Rattle.ded_model.specs.Form.{Form}
use Rattle.ded_model.specs.Known.{IsAccepted, heading_slots}
use Rattle.ded_model.specs.Logic.{AllAtoms}
use Rattle.ded_model.specs.Measure.{measures}
use Rattle.ded_model.specs.PlanForm.{PlanAtom, scan, rows, PlanForm, plan_mentions}
use Rattle.ded_model.specs.Point.{slot, AllBytes, IsValue, AreValues, IsPoint, stands_in}
use Rattle.ded_model.specs.Slotted.{goal_of}
use Rattle.ded_model.specs.Value.{Argument}
use Rattle.ded_algebra.specs.Compiled.{ComesFrom}
use Rattle.ded_sorts.proofs.Headings.{goals_mean}
use Rattle.ded_sorts.proofs.Frees.{goal_free}
use Rattle.ded_plan.specs.Planned.{IsPlanned}
use Rattle.ded_plan.specs.Plans.{AreArguments, IsScanOf, IsPlanOf}
use Rattle.ded_plan.proofs.GoalScans.{goal_use}
use Rattle.ded_plan.proofs.GoalSorts.{goal_sort, goal_sorts}
use Rattle.ded_plan.proofs.TidyPlans.{all_weaker}

-- ---- scans

-- a scan of the goal of an accepted formula is of a name that the formula uses
pub atom_scans : (c : Catalogue) (h : List Column) (f : Form) → IsAccepted (known c) h f → (a : PlanAtom) → ComesFrom (goal_of h f) a → IsScanOf c f a
atom_scans c h f e (scan n ss) i = goal_use (known c) h f e n ss i
atom_scans c h f e (rows t) i = tt

-- so are all scans of its plan
pub plan_scans : (c : Catalogue) (h : List Column) (f : Form) (plan : PlanForm) → IsAccepted (known c) h f → IsPlanned (goal_of h f) plan → AllAtoms (IsScanOf c f) plan
plan_scans c h f plan e p = all_weaker (ComesFrom (goal_of h f)) (IsScanOf c f) (atom_scans c h f e) plan p.atoms

-- ---- points

-- an argument of bytes
pub argument_value : (s : Sort) (x : Argument) → AllBytes x.1 → IsValue (argument_coordinate s x)
argument_value Rat x h = tt
argument_value Text x h = h

-- the values of a heading's columns at its slots
slots_values : (i : ℕ) (h : List Column) (xs : List Argument) → AreArguments h xs → AreValues (at_slots i h xs)
slots_values i [] xs a = tt
slots_values i (c ∷ cs) [] a = tt
slots_values i (c ∷ cs) (x ∷ xs) a = (argument_value c.sort x a.0, slots_values (i + 1) cs xs a.1)

-- make a point
slots_point : (h : List Column) (xs : List Argument) (den : ℕ) → 0 < den → AreArguments h xs → IsPoint (record { den = den; coords = at_slots 0 h xs })
slots_point h xs den i a = record { positive = i; bytes = slots_values 0 h xs a }

-- ---- the laws

-- the plan holds where the formula does, over any catalogue
plan_holds : (c : Catalogue) (h : List Column) (f : Form) (plan : PlanForm) → IsAccepted (known c) h f → IsPlanned (goal_of h f) plan
    → (d : Catalogue) (den : ℕ) (xs : List Argument) → 0 < den → AreArguments h xs
    → PlanHolds d plan (record { den = den; coords = at_slots 0 h xs }) ↔ Holds d f (record { den = den; coords = at_names h xs })
plan_holds c h f plan e p d den xs i a =
    let by_goal = p.holds d (record { den = den; coords = at_slots 0 h xs }) (slots_point h xs den i a) in
    let by_names = goals_mean (meaning d) (known c) h f e.once e.bound e.sorted den xs i in
    (λ x. by_names.1 (by_goal.1 x), λ x. by_goal.0 (by_names.0 x))

-- it mentions freely only the heading's slots
plan_slots : (c : Catalogue) (h : List Column) (f : Form) (plan : PlanForm) → IsAccepted (known c) h f → IsPlanned (goal_of h f) plan
    → (s : Slot) → plan_mentions plan (slot s) ≡ true → stands_in (heading_slots 0 h) s ≡ true
plan_slots c h f plan e p s m = goal_free h f e.bound (slot s) (p.slots (slot s) m)

-- it is a plan of the formula
pub plan_of-formula : (c : Catalogue) (h : List Column) (f : Form) (plan : PlanForm) → IsAccepted (known c) h f → IsPlanned (goal_of h f) plan → IsPlanOf c h f plan
plan_of-formula c h f plan e p = record {
  pushed = p.pushed;
  scans = plan_scans c h f plan e p;
  tidy = p.tidy.1;
  atoms = p.atoms;
  projections = p.tidy.0;
  slots = plan_slots c h f plan e p;
  sorts = p.sorts (goal_sort h f) (goal_sorts h f e.bound);
  conjunctive = p.conjunctive;
  holds = λ d w s den xs i a. plan_holds c h f plan e p d den xs i a;
  lengths = λ d w s. p.length (measures d);
  rank = λ d w s. p.rank (measures d);
}
