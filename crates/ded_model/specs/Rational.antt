-- Goals and plans whose rows are over rational slots, as the rows of all values of the program are.
use Rattle.std.specs.Prelude.{◌≡◌, ℤ, List, [], ◌∷◌}
use Rattle.ded_model.specs.declared.slot.Slot.{Slot}
use Rattle.ded_model.specs.declared.slot.Sort.TheVariants.{Rat}
use Rattle.ded_model.specs.declared.goal.Place.{Place}
use Rattle.ded_model.specs.declared.goal.Place.TheVariants.{At, Value, Quoted}
use Rattle.ded_model.specs.declared.tuple.BothAtom.TheVariants.{First, Second}
use Rattle.ded_model.specs.Row.{Atom}
use Rattle.ded_model.specs.Logic.{AllAtoms}
use Rattle.ded_model.specs.Goal.{GoalAtom, linear, theme, member, GoalForm}
use Rattle.ded_model.specs.PlanForm.{PlanAtom, scan, rows, PlanForm}

-- each coefficient is one of a rational slot
abbrev pub AreRationalCoefs : List (Slot × ℤ) → Type 0
AreRationalCoefs [] = Unit {0}
AreRationalCoefs (c ∷ cs) = (c.0.sort ≡ Rat) × AreRationalCoefs cs

-- each coefficient of the sums among the places is one of a rational slot
abbrev pub AreRationalPlaces : List Place → Type 0
AreRationalPlaces [] = Unit {0}
AreRationalPlaces (At s ∷ ts) = AreRationalPlaces ts
AreRationalPlaces (Value t ∷ ts) = AreRationalCoefs t.coefs × AreRationalPlaces ts
AreRationalPlaces (Quoted t ∷ ts) = AreRationalPlaces ts

-- each coefficient of the rows among the atoms is one of a rational slot
abbrev pub AreRationalAtoms : List Atom → Type 0
AreRationalAtoms [] = Unit {0}
AreRationalAtoms (First r ∷ atoms) = AreRationalCoefs r.coefs × AreRationalAtoms atoms
AreRationalAtoms (Second a ∷ atoms) = AreRationalAtoms atoms

-- each coefficient of a row, or of a sum among the arguments of a relation or view, is one of a rational slot
abbrev pub IsRationalGoalAtom : GoalAtom → Type 0
IsRationalGoalAtom (linear r) = AreRationalCoefs r.coefs
IsRationalGoalAtom (theme a) = Unit {0}
IsRationalGoalAtom (member n ts) = AreRationalPlaces ts

-- each coefficient of a row in a list of atoms is one of a rational slot
abbrev pub IsRationalPlanAtom : PlanAtom → Type 0
IsRationalPlanAtom (scan n ss) = Unit {0}
IsRationalPlanAtom (rows t) = AreRationalAtoms t

-- each coefficient of the rows and sums of a goal is one of a rational slot
abbrev pub IsRationalGoal : GoalForm → Type 0
IsRationalGoal g = AllAtoms IsRationalGoalAtom g

-- each coefficient of the rows of a plan is one of a rational slot
abbrev pub IsRationalPlan : PlanForm → Type 0
IsRationalPlan f = AllAtoms IsRationalPlanAtom f
