-- How formulas are written. A formula is written with its goal, which has the same shape: its comparisons of numbers are written
-- by their rows there.
use Rattle.std.specs.Prelude.{ℕ, Bool, true, false, List, [], ◌++◌, codes}
use Rattle.ded_model.specs.declared.name.Column.{Column}
use Rattle.ded_model.specs.Form.{Form, FormAtom, compare, member}
use Rattle.ded_model.specs.Goal.{GoalAtom, GoalForm}
use Rattle.ded_model.specs.Logic.{atom, always, never, negation, every_of, some_of, implies, minus, exists, forall, Logics, none, also}
use Rattle.ded_model.specs.Slotted.{goal_of}
use Rattle.ded_print.specs.Tuples.{Names, column_names}
use Rattle.ded_dump.specs.declared.formula.Position.{Position}
use Rattle.ded_dump.specs.declared.formula.Position.TheVariants.{Unit, Both, Either}
use Rattle.ded_dump.specs.Comparisons.{below, comparison_text}
use Rattle.ded_dump.specs.Headings.{column_text, variable, places}
use Rattle.ded_dump.specs.Operands.{member_text}

-- ---- the parts of a goal

-- the first part of an `implies`; any other goal is itself
abbrev pub left_goal : GoalForm → GoalForm
left_goal (atom a) = atom a
left_goal always = always
left_goal never = never
left_goal (negation g) = negation g
left_goal (every_of gs) = every_of gs
left_goal (some_of gs) = some_of gs
left_goal (implies f g) = f
left_goal (minus f g) = minus f g
left_goal (exists s k g) = exists s k g
left_goal (forall s k g) = forall s k g

-- the second part of an `implies`; any other goal is itself
abbrev pub right_goal : GoalForm → GoalForm
right_goal (atom a) = atom a
right_goal always = always
right_goal never = never
right_goal (negation g) = negation g
right_goal (every_of gs) = every_of gs
right_goal (some_of gs) = some_of gs
right_goal (implies f g) = g
right_goal (minus f g) = minus f g
right_goal (exists s k g) = exists s k g
right_goal (forall s k g) = forall s k g

-- the members of an `and` or an `or`; any other goal has none
abbrev pub goals_in : GoalForm → Logics GoalAtom
goals_in (atom a) = none
goals_in always = none
goals_in never = none
goals_in (negation g) = none
goals_in (every_of gs) = gs
goals_in (some_of gs) = gs
goals_in (implies f g) = none
goals_in (minus f g) = none
goals_in (exists s k g) = none
goals_in (forall s k g) = none

-- ---- parentheses

-- an `and` has parentheses under `not` and as a member of an `and`
abbrev pub groups_every : Position → Bool
groups_every Unit = true
groups_every Both = false
groups_every Either = false

-- an `or` has them there, and as a member of an `or`
abbrev pub groups_some : Position → Bool
groups_some Unit = true
groups_some Both = true
groups_some Either = false

-- an `implies` has them there, and on the left of an `implies`; nothing else has any
abbrev pub is_grouped : Position → Form → Bool
is_grouped p (atom a) = false
is_grouped p always = false
is_grouped p never = false
is_grouped p (negation f) = false
is_grouped p (every_of fs) = groups_every p
is_grouped p (some_of fs) = groups_some p
is_grouped p (implies f g) = true
is_grouped p (minus f g) = false
is_grouped p (exists s k f) = false
is_grouped p (forall s k f) = false

-- the text, in parentheses where `true` is given
abbrev pub grouped : Bool → List ℕ → List ℕ
grouped true t = codes "(" ++ (t ++ codes ")")
grouped false t = t

-- ---- formulas

-- a comparison, by its goal, or a name with its arguments
abbrev pub atom_text : Names → FormAtom → GoalForm → List ℕ
atom_text names (compare l op r) g = comparison_text names l op r g
atom_text names (member n ts) g = member_text n ts

-- a formula that stands by itself; in the other positions some have parentheses round this. The body of each quantifier has
-- parentheses. A user's formula has no `minus`.
abbrev mutual
  pub whole_text : Names → Form → GoalForm → List ℕ
  whole_text names (atom a) g = atom_text names a g
  whole_text names always g = codes "true"
  whole_text names never g = codes "false"
  whole_text names (negation f) g = codes "not " ++ grouped (is_grouped Unit f) (whole_text names f (below g))
  whole_text names (every_of fs) g = chain_text names Unit [] (codes " and ") fs (goals_in g)
  whole_text names (some_of fs) g = chain_text names Both [] (codes " or ") fs (goals_in g)
  whole_text names (implies e f) g = grouped (is_grouped Either e) (whole_text names e (left_goal g)) ++ (codes " implies " ++ whole_text names f (right_goal g))
  whole_text names (minus e f) g = []
  whole_text names (exists s k f) g = codes "exists " ++ (column_text (variable s k) ++ (codes " (" ++ (whole_text names f (below g) ++ codes ")")))
  whole_text names (forall s k f) g = codes "forall " ++ (column_text (variable s k) ++ (codes " (" ++ (whole_text names f (below g) ++ codes ")")))

  -- the first member after `lead`, each later one after the connective
  pub chain_text : Names → Position → List ℕ → List ℕ → Logics FormAtom → Logics GoalAtom → List ℕ
  chain_text names p lead connective none gs = []
  chain_text names p lead connective (also f fs) none = []
  chain_text names p lead connective (also f fs) (also g gs) = lead ++ (grouped (is_grouped p f) (whole_text names f g) ++ chain_text names p connective connective fs gs)

-- the variable of a quantifier, and its body between parentheses
abbrev pub bound_text : Names → Column → Form → GoalForm → List ℕ
bound_text names c f g = column_text c ++ (codes " (" ++ (whole_text names f g ++ codes ")"))

-- a formula in a position
abbrev pub part_text : Names → Position → Form → GoalForm → List ℕ
part_text names p f g = grouped (is_grouped p f) (whole_text names f g)

-- a formula over a heading: its rows are those of its goal, with the names of the columns and quantifiers for the slots
abbrev pub formula_text : List Column → Form → List ℕ
formula_text h f = whole_text (column_names (places h f)) f (goal_of h f)
