-- Plans of formulas over a heading.
use Rattle.std.specs.Prelude.{◌≡◌, ◌↔◌, ◌<◌, ◌≤◌, ℕ, true, Option, Some, None, List, [], ◌∷◌}
use Rattle.ded_model.specs.declared.name.Column.{Column}
use Rattle.ded_model.specs.declared.slot.Slot.{Slot}
use Rattle.ded_model.specs.Catalogue.{Catalogue, at_slots, at_names, Holds, PlanHolds}
use Rattle.ded_model.specs.Entries.{known, columns_in}
use Rattle.ded_model.specs.Form.{Form, uses, speaks_of}
use Rattle.ded_model.specs.Made.{base}
use Rattle.ded_model.specs.Known.{Known, IsWellFormed, heading_slots}
use Rattle.ded_model.specs.Logic.{AllAtoms, conjunctive}
use Rattle.ded_model.specs.Measure.{measures, goal_b, goal_rank, plan_b, plan_rank}
use Rattle.ded_model.specs.PlanForm.{PlanAtom, PlanForm, scan, rows, plan_mentions}
use Rattle.ded_model.specs.Point.{slot, stands_in, AllBytes}
use Rattle.ded_model.specs.Pushed.{pushed}
use Rattle.ded_model.specs.Slotted.{goal_of}
use Rattle.ded_model.specs.Value.{Argument}
use Rattle.ded_algebra.specs.Compiled.{ComesFrom, IsConjunctivePlan, IsOneSorted}
use Rattle.ded_algebra.specs.Evaluation.{HaveSorts}
use Rattle.ded_plan.specs.Rewritten.{ProjectsSlots, IsTidyAtom}

-- the values of a heading's columns: as many as it has, and texts of bytes
abbrev pub AreArguments : List Column → List Argument → Type 0
AreArguments [] [] = Unit {0}
AreArguments [] (x ∷ xs) = ⊥
AreArguments (c ∷ cs) [] = ⊥
AreArguments (c ∷ cs) (x ∷ xs) = AllBytes x.1 × AreArguments cs xs

-- of two names: of one kind, with one heading
abbrev pub SameHead : Option Known → Option Known → Type 0
SameHead None None = Unit {0}
SameHead None (Some k) = ⊥
SameHead (Some j) None = ⊥
SameHead (Some j) (Some k) = (j.is_view ≡ k.is_view) × (j.columns ≡ k.columns)

-- a scan is of a name that the formula uses, at slots of the sorts of its columns, or of those of the name that it is made of
abbrev pub IsScanOf : Catalogue → Form → PlanAtom → Type 0
IsScanOf c f (scan n ss) = (uses n f ≡ true) × HaveSorts (columns_in c (base n)) ss
IsScanOf c f (rows t) = Unit {0}

-- a pushed plan whose atoms are tidy, each from an atom of the formula's goal, whose projections are of slots, which mentions
-- freely only slots of the heading, and which is conjunctive where the goal is. In each part of it, and in the whole, two slots of
-- one number that are free there have one sort. It holds where the formula does, with lengths and a rank of at most the formula's,
-- over every well formed catalogue in which the names that the formula speaks of have the same kinds and headings
pub record IsPlanOf (c : Catalogue) (h : List Column) (f : Form) (plan : PlanForm) : Type 0 where
  pub pushed : pushed plan ≡ true
  pub scans : AllAtoms (IsScanOf c f) plan
  pub tidy : AllAtoms IsTidyAtom plan
  pub atoms : AllAtoms (ComesFrom (goal_of h f)) plan
  pub projections : ProjectsSlots plan
  pub slots : (s : Slot) → plan_mentions plan (slot s) ≡ true → stands_in (heading_slots 0 h) s ≡ true
  pub sorts : IsOneSorted plan
  pub conjunctive : conjunctive (goal_of h f) ≡ true → IsConjunctivePlan (goal_of h f) plan
  pub holds : (d : Catalogue) → IsWellFormed d → ((n : List ℕ) → speaks_of n f ≡ true → SameHead (known c n) (known d n))
      → (den : ℕ) (xs : List Argument) → 0 < den → AreArguments h xs
      → PlanHolds d plan (record { den = den; coords = at_slots 0 h xs }) ↔ Holds d f (record { den = den; coords = at_names h xs })
  pub lengths : (d : Catalogue) → IsWellFormed d → ((n : List ℕ) → speaks_of n f ≡ true → SameHead (known c n) (known d n))
      → plan_b (measures d) plan ≤ goal_b (measures d) (goal_of h f)
  pub rank : (d : Catalogue) → IsWellFormed d → ((n : List ℕ) → speaks_of n f ≡ true → SameHead (known c n) (known d n))
      → plan_rank (measures d) plan ≤ goal_rank (measures d) (goal_of h f)
