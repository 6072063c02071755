-- What is promised of the plan that is put in the place of a plan.
use Rattle.std.specs.Prelude.{◌≡◌, ◌↔◌, ◌<◌, ◌≤◌, ℕ, Bool, true, false, List}
use Rattle.ded_model.specs.declared.slot.Slot.{Slot}
use Rattle.ded_model.specs.Point.{Key, Point, IsSlotOf, AreDistinctSlots}
use Rattle.ded_model.specs.Normal.{IsNormalTuple}
use Rattle.ded_model.specs.Logic.{atom, always, never, negation, every_of, some_of, implies, minus, exists, forall, Logics, none, also, AllAtoms, count_atoms, conjunctive}
use Rattle.ded_model.specs.PlanForm.{PlanAtom, scan, rows, PlanForm, plan_mentions}
use Rattle.ded_model.specs.Catalogue.{Catalogue, PlanHolds}
use Rattle.ded_model.specs.Lines.{IsSubset}
use Rattle.ded_model.specs.Measure.{Measures, plan_b, plan_rank, plan_lines, plan_clashes}
use Rattle.ded_model.specs.Pushed.{pushed}
use Rattle.ded_algebra.specs.Compiled.{IsOneSorted}

-- ---- tidy plans

-- each projection is one of a slot, of its sort
abbrev mutual
  pub ProjectsSlots : PlanForm → Type 0
  ProjectsSlots (atom a) = Unit {0}
  ProjectsSlots always = Unit {0}
  ProjectsSlots never = Unit {0}
  ProjectsSlots (negation f) = ProjectsSlots f
  ProjectsSlots (every_of fs) = EachProjectsSlots fs
  ProjectsSlots (some_of fs) = EachProjectsSlots fs
  ProjectsSlots (implies f g) = ProjectsSlots f × ProjectsSlots g
  ProjectsSlots (minus f g) = ProjectsSlots f × ProjectsSlots g
  ProjectsSlots (exists s k f) = IsSlotOf s k × ProjectsSlots f
  ProjectsSlots (forall s k f) = IsSlotOf s k × ProjectsSlots f

  -- each projection in the plans of a list is one of a slot, of its sort
  pub EachProjectsSlots : Logics PlanAtom → Type 0
  EachProjectsSlots none = Unit {0}
  EachProjectsSlots (also f fs) = ProjectsSlots f × EachProjectsSlots fs

-- a scan at slots of which no two are the same, or the rows of a normal tuple: in order, each once, none true everywhere, rows
-- over rational slots and text atoms over text slots
abbrev pub IsTidyAtom : PlanAtom → Type 0
IsTidyAtom (scan n ss) = AreDistinctSlots ss
IsTidyAtom (rows t) = IsNormalTuple t

-- as every plan of the program is
abbrev pub IsTidyPlan : PlanForm → Type 0
IsTidyPlan f = ProjectsSlots f × AllAtoms IsTidyAtom f

-- ---- a plan in the place of a plan

-- the atom passes the test
abbrev pub IsPassed : (PlanAtom → Bool) → PlanAtom → Type 0
IsPassed test a = test a ≡ true

-- a scan whose name and slots pass the test
abbrev pub is_scan_with : (List ℕ → List Slot → Bool) → PlanAtom → Bool
is_scan_with test (scan n ss) = test n ss
is_scan_with test (rows t) = false

-- it is pushed and holds where the plan does over every catalogue, mentions freely only what the plan does, has lengths and a
-- rank of at most the plan's, lines among the plan's, and clashes only where the plan does. As many scans pass each test of
-- names and slots, so each name is scanned as often, at the same slots; what all atoms of the plan pass, all of its own do; and
-- where the plan is conjunctive, it is. It is tidy, and has one sort for each number in each of its parts where the plan has
pub record IsRewritten (f g : PlanForm) : Type 0 where
  pub holds : (c : Catalogue) (p : Point) → 0 < p.den → PlanHolds c f p ↔ PlanHolds c g p
  pub slots : (k : Key) → plan_mentions g k ≡ true → plan_mentions f k ≡ true
  pub length : (M : Measures) → plan_b M g ≤ plan_b M f
  pub rank : (M : Measures) → plan_rank M g ≤ plan_rank M f
  pub lines : (M : Measures) → IsSubset (plan_lines M g) (plan_lines M f)
  pub clashes : (M : Measures) → plan_clashes M g ≡ true → plan_clashes M f ≡ true
  pub scans : (test : List ℕ → List Slot → Bool) → count_atoms (is_scan_with test) g ≡ count_atoms (is_scan_with test) f
  pub atoms : (test : PlanAtom → Bool) → AllAtoms (IsPassed test) f → AllAtoms (IsPassed test) g
  pub conjunctive : conjunctive f ≡ true → conjunctive g ≡ true
  pub tidy : IsTidyPlan g
  pub sorts : IsOneSorted f → IsOneSorted g
  pub pushed : pushed g ≡ true
