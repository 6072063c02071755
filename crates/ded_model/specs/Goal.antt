-- The formula that a value of `Goal` stands for. It is read at points by slots.
use Rattle.std.specs.Prelude.{ℕ, Bool, false, IsTrue, List, map}
use Rattle.std.specs.List.{list_any}
use Rattle.ded_model.specs.declared.slot.Slot.{Slot}
use Rattle.ded_model.specs.declared.tuple.ThemeAtom.{ThemeAtom}
use Rattle.ded_model.specs.declared.goal.Place.{Place}
use Rattle.ded_model.specs.declared.goal.Place.TheVariants.{At, Value, Quoted}
use Rattle.ded_model.specs.declared.goal.Goal.{Goal, fold-Goal}
use Rattle.ded_model.specs.declared.goal.Goal.TheOpen.{Goal-F}
use Rattle.ded_model.specs.Constraint.{LinearConstraint}
use Rattle.ded_model.specs.Point.{Key, slot, Point, same_slot}
use Rattle.ded_model.specs.Row.{row_holds, theme_holds, row_mentions, theme_mentions, at_slot}
use Rattle.ded_model.specs.Logic.{Logic, atom, always, never, negation, every_of, some_of, implies, exists, forall, Logics, logics, mentions}
use Rattle.ded_model.specs.Value.{place_value, Meaning, NameHolds}

-- an atom by slots: a row, a text atom, or a relation or view with its arguments
pub data GoalAtom : Type 0 where
  linear : LinearConstraint → GoalAtom
  theme : ThemeAtom → GoalAtom
  member : List ℕ → List Place → GoalAtom

-- a formula by slots
abbrev pub GoalForm : Type 0
GoalForm = Logic GoalAtom

-- one level, with each goal inside already seen as what it stands for
abbrev pub goal_step : Goal-F GoalForm → GoalForm
goal_step Goal-F.True = always
goal_step Goal-F.False = never
goal_step (Goal-F.Linear r) = atom (linear r)
goal_step (Goal-F.Theme a) = atom (theme a)
goal_step (Goal-F.Member n ts) = atom (member n ts)
goal_step (Goal-F.Not f) = negation f.value
goal_step (Goal-F.And fs) = every_of (logics fs.items)
goal_step (Goal-F.Or fs) = some_of (logics fs.items)
goal_step (Goal-F.Implies f g) = implies f.value g.value
goal_step (Goal-F.Exists s f) = exists s.sort (slot s) f.value
goal_step (Goal-F.Forall s f) = forall s.sort (slot s) f.value

-- the formula that a value of `Goal` stands for
abbrev pub goal_form : Goal → GoalForm
goal_form = fold-Goal GoalForm goal_step

-- the formulas that the values of a list stand for
abbrev pub goal_forms : List Goal → Logics GoalAtom
goal_forms fs = logics (map goal_form fs)

-- whether an atom holds at a point by slots, where the names mean I
abbrev pub GoalAtomHolds : Meaning → GoalAtom → Point → Type 0
GoalAtomHolds I (linear r) p = IsTrue (row_holds r p)
GoalAtomHolds I (theme a) p = IsTrue (theme_holds a p)
GoalAtomHolds I (member n ts) p = NameHolds I n p.den (map (λ t. place_value t p) ts)

-- whether a place mentions the slot; a quoted text mentions none
abbrev pub place_mentions : Place → Slot → Bool
place_mentions (At s) u = same_slot s u
place_mentions (Value t) u = list_any (λ c. same_slot c.0 u) t.coefs
place_mentions (Quoted t) u = false

-- whether an atom mentions the slot
abbrev pub goal_atom_mentions : GoalAtom → Slot → Bool
goal_atom_mentions (linear r) u = row_mentions r u
goal_atom_mentions (theme a) u = theme_mentions a u
goal_atom_mentions (member n ts) u = list_any (λ t. place_mentions t u) ts

-- whether an atom mentions the key; it mentions no names
abbrev pub in_goal_atom : GoalAtom → Key → Bool
in_goal_atom a k = at_slot (goal_atom_mentions a) k

-- whether a goal mentions the key freely
abbrev pub goal_mentions : GoalForm → Key → Bool
goal_mentions g k = mentions in_goal_atom g k
