-- Goals whose atoms are normal, as those of the goal of a formula are.
use Rattle.std.specs.Prelude.{◌≡◌, ◌<◌}
use Rattle.ded_model.specs.declared.slot.Sort.TheVariants.{Text}
use Rattle.ded_model.specs.declared.tuple.ThemeAtom.{ThemeAtom}
use Rattle.ded_model.specs.declared.tuple.ThemeAtom.TheVariants.{EqText, NeText, EqSlot, NeSlot}
use Rattle.ded_model.specs.Normal.{IsNormalRow}
use Rattle.ded_model.specs.Logic.{AllAtoms}
use Rattle.ded_model.specs.Goal.{GoalAtom, linear, theme, member, GoalForm}

-- over text slots, of two the one of lesser number first
abbrev pub IsOrderedTheme : ThemeAtom → Type 0
IsOrderedTheme (EqText s t) = s.sort ≡ Text
IsOrderedTheme (NeText s t) = s.sort ≡ Text
IsOrderedTheme (EqSlot s t) = (s.sort ≡ Text) × (t.sort ≡ Text) × (s.number < t.number)
IsOrderedTheme (NeSlot s t) = (s.sort ≡ Text) × (t.sort ≡ Text) × (s.number < t.number)

-- a row is normal, a text atom is over text slots in order, and a relation or view may have any arguments
abbrev pub IsNormalGoalAtom : GoalAtom → Type 0
IsNormalGoalAtom (linear r) = IsNormalRow r
IsNormalGoalAtom (theme a) = IsOrderedTheme a
IsNormalGoalAtom (member n ts) = Unit {0}

-- the rows and text atoms of a goal are normal
abbrev pub IsNormalGoal : GoalForm → Type 0
IsNormalGoal g = AllAtoms IsNormalGoalAtom g
