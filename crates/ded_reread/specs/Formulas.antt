-- The formulas and comparisons that are read back of the lines of a catalogue. A formula is taken with its goal, which has the same shape.
use Rattle.std.specs.Prelude.{ℤ, false, List, [], ◌∷◌, map}
use Rattle.ded_model.specs.declared.formula.CompareOp.TheVariants.{Equal, NotEqual}
use Rattle.ded_model.specs.declared.formula.Operand.TheVariants.{Single, Quoted}
use Rattle.ded_model.specs.declared.name.Column.{Column}
use Rattle.ded_model.specs.declared.slot.Slot.{Slot}
use Rattle.ded_model.specs.declared.tuple.BothAtom.TheVariants.{First, Second}
use Rattle.ded_model.specs.declared.tuple.ThemeAtom.{ThemeAtom}
use Rattle.ded_model.specs.declared.tuple.ThemeAtom.TheVariants.{EqText, NeText, EqSlot, NeSlot}
use Rattle.ded_model.specs.Constraint.{LinearConstraint}
use Rattle.ded_model.specs.Form.{Form, FormAtom, compare, member}
use Rattle.ded_model.specs.Goal.{GoalAtom, GoalForm}
use Rattle.ded_model.specs.Logic.{atom, always, never, negation, every_of, some_of, implies, minus, exists, forall, Logics, none, also}
use Rattle.ded_model.specs.Row.{Atom}
use Rattle.ded_model.specs.Slotted.{goal_of}
use Rattle.ded_print.specs.Tuples.{Names, column_names}
use Rattle.ded_dump.specs.Comparisons.{below, row_of}
use Rattle.ded_dump.specs.Formulas.{left_goal, right_goal, goals_in}
use Rattle.ded_dump.specs.Headings.{places}
use Rattle.ded_reread.specs.Operands.{restored_operand, row_compare, constant_compare, restored_compare}

-- ---- formulas

-- what is read back of a comparison, by its goal, or of a name with its arguments
abbrev pub restored_atom : Names → FormAtom → GoalForm → FormAtom
restored_atom names (compare l op r) g = restored_compare names l op r (row_of (below g))
restored_atom names (member n ts) g = member n (map restored_operand ts)

-- what is read back of a formula with its goal and the names of the slots; a `minus`, which isn't written, is itself
abbrev mutual
  pub restored_by : Names → Form → GoalForm → Form
  restored_by names (atom a) g = atom (restored_atom names a g)
  restored_by names always g = always
  restored_by names never g = never
  restored_by names (negation f) g = negation (restored_by names f (below g))
  restored_by names (every_of fs) g = every_of (restored_each names fs (goals_in g))
  restored_by names (some_of fs) g = some_of (restored_each names fs (goals_in g))
  restored_by names (implies e f) g = implies (restored_by names e (left_goal g)) (restored_by names f (right_goal g))
  restored_by names (minus e f) g = minus e f
  restored_by names (exists s k f) g = exists s k (restored_by names f (below g))
  restored_by names (forall s k f) g = forall s k (restored_by names f (below g))

  -- what is read back of each formula with its goal, as far as both lists go
  pub restored_each : Names → Logics FormAtom → Logics GoalAtom → Logics FormAtom
  restored_each names none gs = none
  restored_each names (also f fs) none = none
  restored_each names (also f fs) (also g gs) = also (restored_by names f g) (restored_each names fs gs)

-- what is read back of the formula of a view over a heading
abbrev pub restored : List Column → Form → Form
restored h f = restored_by (column_names (places h f)) f (goal_of h f)

-- ---- tuples

-- a row without coefficients is a false one, since a normal tuple has no true one
abbrev pub row_in_tuple : Names → LinearConstraint → List (Slot × ℤ) → FormAtom
row_in_tuple names r [] = constant_compare false
row_in_tuple names r (c ∷ cs) = row_compare names r

-- the comparison that is read back of a text atom
abbrev pub theme_compare : Names → ThemeAtom → FormAtom
theme_compare names (EqText s t) = compare (Single (names s)) Equal (Quoted t)
theme_compare names (NeText s t) = compare (Single (names s)) NotEqual (Quoted t)
theme_compare names (EqSlot s t) = compare (Single (names s)) Equal (Single (names t))
theme_compare names (NeSlot s t) = compare (Single (names s)) NotEqual (Single (names t))

-- the comparison that is read back of an atom of a tuple
abbrev pub tuple_compare : Names → Atom → FormAtom
tuple_compare names (First r) = row_in_tuple names r r.coefs
tuple_compare names (Second a) = theme_compare names a

-- the comparisons that are read back of the atoms, in order
abbrev pub tuple_compares : Names → List Atom → Logics FormAtom
tuple_compares names [] = none
tuple_compares names (a ∷ atoms) = also (atom (tuple_compare names a)) (tuple_compares names atoms)

-- the comparisons that are read back of a tuple over a heading
abbrev pub restored_tuple : List Column → List Atom → Logics FormAtom
restored_tuple h t = tuple_compares (column_names h) t
