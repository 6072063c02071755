-- Which lines a greatest length and a rank leave, and names, goals and plans whose lines are so.
use Rattle.std.specs.Prelude.{◌≡◌, ℕ, ◌+◌, ◌*◌, ◌^◌, ℤ, true, false, List, [], ◌∷◌}
use Rattle.ded_model.specs.declared.slot.Slot.{Slot}
use Rattle.ded_model.specs.declared.slot.Sort.TheVariants.{Rat}
use Rattle.ded_model.specs.declared.goal.Place.{Place}
use Rattle.ded_model.specs.declared.goal.Place.TheVariants.{At, Value, Quoted}
use Rattle.ded_model.specs.declared.tuple.BothAtom.TheVariants.{First, Second}
use Rattle.ded_model.specs.Coefs.{AllAbove}
use Rattle.ded_model.specs.Point.{AreDistinctSlots}
use Rattle.ded_model.specs.Row.{Atom, row_mentions}
use Rattle.ded_model.specs.Logic.{AllAtoms}
use Rattle.ded_model.specs.Goal.{GoalAtom, linear, theme, member, GoalForm}
use Rattle.ded_model.specs.PlanForm.{PlanAtom, scan, rows, PlanForm}
use Rattle.ded_model.specs.Lines.{Line, In, AreWithin}
use Rattle.ded_model.specs.Width.{IsNarrowWith}
use Rattle.ded_model.specs.Measure.{Measures}

-- ---- lines

-- numbers of less than (b + 1) * 2 ^ q digits
abbrev pub AreWithinReach : ℕ → ℕ → List Line → Type 0
AreWithinReach b q ls = (k : ℕ) → k + 1 ≡ (b + 1) * 2 ^ q → AreWithin k ls

-- each slot that a line mentions is rational
abbrev pub AreRationalLines : List Line → Type 0
AreRationalLines ls = (l : Line) → In l ls → (t : Slot) → row_mentions l t ≡ true → t.sort ≡ Rat

-- the lines of each name are over rational slots, and have less than (b + 1) * 2 ^ q digits, b the name's greatest length and q
-- its rank; where that is narrow, the name has no clash
pub record AreInReach (M : Measures) : Type 0 where
  pub rational : (n : List ℕ) → AreRationalLines (M n).lines
  pub within : (n : List ℕ) → AreWithinReach (M n).b (M n).rank (M n).lines
  pub tight : (n : List ℕ) → IsNarrowWith (M n).b (M n).rank → (M n).clash ≡ false

-- ---- rows

-- rational slots in ascending order, so each of them once
abbrev pub AreAscending : List (Slot × ℤ) → Type 0
AreAscending [] = Unit {0}
AreAscending (c ∷ cs) = (c.0.sort ≡ Rat) × AllAbove c.0.number cs × AreAscending cs

-- each row among the atoms has rational slots in ascending order
abbrev pub AreAscendingRows : List Atom → Type 0
AreAscendingRows [] = Unit {0}
AreAscendingRows (First r ∷ atoms) = AreAscending r.coefs × AreAscendingRows atoms
AreAscendingRows (Second a ∷ atoms) = AreAscendingRows atoms

-- each sum among the places has rational slots in ascending order
abbrev pub AreAscendingPlaces : List Place → Type 0
AreAscendingPlaces [] = Unit {0}
AreAscendingPlaces (At s ∷ ts) = AreAscendingPlaces ts
AreAscendingPlaces (Value t ∷ ts) = AreAscending t.coefs × AreAscendingPlaces ts
AreAscendingPlaces (Quoted t ∷ ts) = AreAscendingPlaces ts

-- ---- goals and plans

-- the row of the atom, or each sum among its arguments, has rational slots in ascending order
abbrev pub IsAscendingGoalAtom : GoalAtom → Type 0
IsAscendingGoalAtom (linear r) = AreAscending r.coefs
IsAscendingGoalAtom (theme a) = Unit {0}
IsAscendingGoalAtom (member n ts) = AreAscendingPlaces ts

-- each row and each sum of the goal has rational slots in ascending order
abbrev pub IsAscendingGoal : GoalForm → Type 0
IsAscendingGoal g = AllAtoms IsAscendingGoalAtom g

-- no two slots of a scan are the same, and of rows each has rational slots in ascending order
abbrev pub IsAscendingPlanAtom : PlanAtom → Type 0
IsAscendingPlanAtom (scan n ss) = AreDistinctSlots ss
IsAscendingPlanAtom (rows t) = AreAscendingRows t

-- each row of the plan has rational slots in ascending order, and no two slots of a scan are the same
abbrev pub IsAscendingPlan : PlanForm → Type 0
IsAscendingPlan f = AllAtoms IsAscendingPlanAtom f
