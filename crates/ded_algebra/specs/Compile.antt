-- The plan of a goal.
use Rattle.std.specs.Prelude.{ℕ, List, [], ◌∷◌, map}
use Rattle.ded_model.specs.declared.slot.Slot.{Slot}
use Rattle.ded_model.specs.declared.goal.Place.{Place}
use Rattle.ded_model.specs.declared.tuple.BothAtom.TheVariants.{Second}
use Rattle.ded_model.specs.Point.{slot}
use Rattle.ded_model.specs.Row.{Atom}
use Rattle.ded_model.specs.Logic.{atom, always, never, negation, every_of, some_of, implies, minus, exists, forall, Logics, none, also, logics}
use Rattle.ded_model.specs.Goal.{GoalAtom, linear, theme, member, GoalForm}
use Rattle.ded_model.specs.PlanForm.{PlanAtom, scan, rows, PlanForm}
use Rattle.ded_model.specs.Scanned.{scanned, scanned_slots, tied_atoms, fresh_slots}
use Rattle.ded_model.specs.Slotted.{goal_atoms}

-- the points at which the atom holds
abbrev pub row_plan : Atom → PlanForm
row_plan a = atom (rows (a ∷ []))

-- the plan together with others, itself where there is none
abbrev pub joined : PlanForm → List PlanForm → PlanForm
joined f [] = f
joined f (g ∷ gs) = every_of (logics (f ∷ g ∷ gs))

-- without the slots, the first one innermost
abbrev pub projected : List Slot → PlanForm → PlanForm
projected [] f = f
projected (s ∷ ss) f = projected ss (exists s.sort (slot s) f)

-- the scan of a name at its arguments: those that need it get new slots, with rows that tie these to their values
abbrev pub member_plan : List ℕ → List Place → PlanForm
member_plan n ts = projected (fresh_slots (scanned ts)) (joined (atom (scan n (scanned_slots (scanned ts)))) (map row_plan (tied_atoms (scanned ts))))

-- the plan of an atom of a goal: rows for a comparison, and for a name its scan at the arguments
abbrev pub atom_plan : GoalAtom → PlanForm
atom_plan (linear r) = atom (rows (goal_atoms (atom (linear r))))
atom_plan (theme a) = row_plan (Second a)
atom_plan (member n ts) = member_plan n ts

-- `implies` is not the first or the second, and `forall` is not some not
abbrev mutual
  pub plan_of : GoalForm → PlanForm
  plan_of (atom a) = atom_plan a
  plan_of always = every_of none
  plan_of never = some_of none
  plan_of (negation f) = negation (plan_of f)
  plan_of (every_of fs) = every_of (plans_of fs)
  plan_of (some_of fs) = some_of (plans_of fs)
  plan_of (implies f g) = some_of (also (negation (plan_of f)) (also (plan_of g) none))
  plan_of (minus f g) = minus (plan_of f) (plan_of g)
  plan_of (exists s k f) = exists s k (plan_of f)
  plan_of (forall s k f) = negation (exists s k (negation (plan_of f)))

  -- the plan of each of the goals, in order
  pub plans_of : Logics GoalAtom → Logics PlanAtom
  plans_of none = none
  plans_of (also f fs) = also (plan_of f) (plans_of fs)
