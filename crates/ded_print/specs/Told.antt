-- Plans that are told by what is written of them.
use Rattle.std.specs.Prelude.{◌≡◌, ℕ, List, map}
use Rattle.ded_model.specs.declared.slot.Slot.{Slot}
use Rattle.ded_model.specs.declared.slot.Sort.{Sort}
use Rattle.ded_model.specs.Logic.{atom, always, never, negation, every_of, some_of, implies, minus, exists, forall, Logics, none, also}
use Rattle.ded_model.specs.Normal.{IsNormalTuple}
use Rattle.ded_model.specs.PlanForm.{PlanAtom, scan, rows, PlanForm}
use Rattle.ded_model.specs.Point.{IsSlotOf}
use Rattle.ded_print.specs.Quiet.{IsQuiet}

-- a scan of a name without a blank, a line feed or a quote, into slots of the sorts of its columns, or atoms in normal form
abbrev pub IsToldAtom : (List ℕ → List Sort) → PlanAtom → Type 0
IsToldAtom sorts (scan n ss) = IsQuiet n × (map (λ (s : Slot). s.sort) ss ≡ sorts n)
IsToldAtom sorts (rows t) = IsNormalTuple t

-- scans and lists of atoms that are told, under the connectives that a plan has. `sorts` gives the sorts of the columns of
-- each name: a slot is written as its number alone
abbrev mutual
  pub IsToldPlan : (List ℕ → List Sort) → PlanForm → Type 0
  IsToldPlan sorts (atom a) = IsToldAtom sorts a
  IsToldPlan sorts always = ⊥
  IsToldPlan sorts never = ⊥
  IsToldPlan sorts (negation f) = IsToldPlan sorts f
  IsToldPlan sorts (every_of fs) = AreToldPlans sorts fs
  IsToldPlan sorts (some_of fs) = AreToldPlans sorts fs
  IsToldPlan sorts (implies f g) = ⊥
  IsToldPlan sorts (minus f g) = IsToldPlan sorts f × IsToldPlan sorts g
  IsToldPlan sorts (exists s k f) = IsSlotOf s k × IsToldPlan sorts f
  IsToldPlan sorts (forall s k f) = ⊥

  -- each plan of the list is told
  pub AreToldPlans : (List ℕ → List Sort) → Logics PlanAtom → Type 0
  AreToldPlans sorts none = Unit {0}
  AreToldPlans sorts (also f fs) = IsToldPlan sorts f × AreToldPlans sorts fs
