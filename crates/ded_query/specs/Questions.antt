-- Questions over a catalogue, and their answers.
use Rattle.std.specs.Prelude.{◌≡◌, ◌≢◌, ◌↔◌, ◌<◌, ℕ, IsTrue, List}
use Rattle.std.specs.List.{AllByRecursion, AllPairs}
use Rattle.ded_model.specs.declared.name.Column.{Column}
use Rattle.ded_model.specs.Catalogue.{Catalogue, at_slots, at_names, Holds}
use Rattle.ded_model.specs.Cell.{IsReduced}
use Rattle.ded_model.specs.Entries.{known}
use Rattle.ded_model.specs.Form.{Form}
use Rattle.ded_model.specs.Goal.{GoalForm}
use Rattle.ded_model.specs.Known.{IsAccepted, IsTupleOver}
use Rattle.ded_model.specs.Lines.{IsSubset, tuples_lines}
use Rattle.ded_model.specs.Measure.{measures, goal_lines}
use Rattle.ded_model.specs.Row.{Atom, tuples_hold, atom_holds}
use Rattle.ded_model.specs.Slotted.{goal_of}
use Rattle.ded_model.specs.Value.{Argument}
use Rattle.ded_model.specs.Width.{IsNarrowList}
use Rattle.ded_width.specs.Orderly.{IsOrderly, IsShortReach, AreOrdered, reached_points}
use Rattle.ded_plan.specs.Plans.{AreArguments}

-- the goal is that of the formula over the heading, none for a closed one, and the formula is accepted over the names
pub record IsQuestion (c : Catalogue) (h : List Column) (g : GoalForm) (f : Form) : Type 0 where
  pub goal : g ≡ goal_of h f
  pub accepted : IsAccepted (known c) h f

-- normal tuples over the heading that hold exactly where the formula does, column i at slot i standing for its name;
-- each narrow one has nothing superfluous, and none stands twice; and their lines are among those of the formula. Where the
-- formula is orderly, and what it reaches is short, none of them has anything superfluous, and their rows are order rows between
-- the points that it reaches
pub record IsAnswer (c : Catalogue) (h : List Column) (f : Form) (ts : List (List Atom)) : Type 0 where
  pub over : AllByRecursion (IsTupleOver h) ts
  pub holds : (d : ℕ) (xs : List Argument) → 0 < d → AreArguments h xs
      → IsTrue (tuples_hold ts (record { den = d; coords = at_slots 0 h xs })) ↔ Holds c f (record { den = d; coords = at_names h xs })
  pub reduced : AllByRecursion (λ t. IsNarrowList t → IsReduced atom_holds t) ts
  pub once : AllPairs (λ t u. t ≢ u) ts
  pub lines : IsSubset (tuples_lines ts) (goal_lines (measures c) (goal_of h f))
  pub orderly : IsOrderly c h f → IsShortReach c h f → AllByRecursion (λ t. IsReduced atom_holds t × AreOrdered (reached_points c h f) t) ts
