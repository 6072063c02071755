-- How columns and headings are written, and which columns the slots of a formula have.
use Rattle.std.specs.Prelude.{ℕ, List, [], ◌∷◌, ◌++◌, codes}
use Rattle.ded_model.specs.declared.name.Column.{Column}
use Rattle.ded_model.specs.declared.slot.Sort.{Sort}
use Rattle.ded_model.specs.Form.{Form, FormAtom}
use Rattle.ded_model.specs.Logic.{atom, always, never, negation, every_of, some_of, implies, minus, exists, forall, Logics, none, also}
use Rattle.ded_model.specs.Point.{Key}
use Rattle.ded_print.specs.Plans.{key_text, sort_text}

-- ---- as they are written

-- `x`, or `n text`
abbrev pub column_text : Column → List ℕ
column_text c = c.name ++ sort_text c.sort

-- the first column after `lead`, each later one after a comma and a blank
abbrev pub columns_text : List ℕ → List Column → List ℕ
columns_text lead [] = []
columns_text lead (c ∷ cs) = lead ++ (column_text c ++ columns_text (codes ", ") cs)

-- `(x, n text)`
abbrev pub heading_text : List Column → List ℕ
heading_text h = codes "(" ++ (columns_text [] h ++ codes ")")

-- ---- by slots

-- the variable of a quantifier as a column
abbrev pub variable : Sort → Key → Column
variable s k = record { name = key_text k; sort = s }

-- the variables of the quantifiers, in the order in which these stand
abbrev mutual
  pub variables : Form → List Column
  variables (atom a) = []
  variables always = []
  variables never = []
  variables (negation f) = variables f
  variables (every_of fs) = variables_of fs
  variables (some_of fs) = variables_of fs
  variables (implies f g) = variables f ++ variables g
  variables (minus f g) = variables f ++ variables g
  variables (exists s k f) = variable s k ∷ variables f
  variables (forall s k f) = variable s k ∷ variables f

  -- the variables of the quantifiers of the formulas of a list, in order
  pub variables_of : Logics FormAtom → List Column
  variables_of none = []
  variables_of (also f fs) = variables f ++ variables_of fs

-- What the slots of the goal of a formula over a heading are called by: the columns have the slots from 0 on, and then the
-- quantifiers in the order in which they stand. An atom of the goal has only slots of columns and quantifiers round it, of each
-- name that of the nearest one. So the name of a slot means that slot wherever it is printed.
abbrev pub places : List Column → Form → List Column
places h f = h ++ variables f
