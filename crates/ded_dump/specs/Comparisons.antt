-- How comparisons are written.
use Rattle.std.specs.Prelude.{ℕ, ℤ, Bool, true, false, not, List, [], ◌∷◌, ◌++◌, codes, Option, Some, None}
use Rattle.ded_model.specs.declared.formula.CompareOp.{CompareOp}
use Rattle.ded_model.specs.declared.formula.CompareOp.TheVariants.{Less, LessEq, Equal, NotEqual, GreaterEq, Greater}
use Rattle.ded_model.specs.declared.formula.Operand.{Operand}
use Rattle.ded_model.specs.declared.slot.Slot.{Slot}
use Rattle.ded_model.specs.Constraint.{LinearConstraint}
use Rattle.ded_model.specs.Goal.{GoalAtom, linear, theme, member, GoalForm}
use Rattle.ded_model.specs.Logic.{atom, always, never, negation, every_of, some_of, implies, minus, exists, forall}
use Rattle.ded_model.specs.Normal.{is_true_row}
use Rattle.ded_print.specs.Tuples.{Names, row_text, unlike_text}
use Rattle.ded_dump.specs.Operands.{operand_text}

-- ---- comparisons of numbers, by their normal rows

-- a comparison that is true, or false, wherever it stands
abbrev pub constant_text : Bool → List ℕ
constant_text true = codes "0 = 0"
constant_text false = codes "0 < 0"

-- the row is compared; a row without coefficients is `0 = 0` where it is true, else `0 < 0`
abbrev pub stated_text : Names → LinearConstraint → List (Slot × ℤ) → List ℕ
stated_text names r [] = constant_text (is_true_row r)
stated_text names r (c ∷ cs) = row_text names r

-- the row of `=` with `!=` in its place; a row without coefficients is `0 < 0` where it is true, else `0 = 0`
abbrev pub denied_text : Names → LinearConstraint → List (Slot × ℤ) → List ℕ
denied_text names r [] = constant_text (not (is_true_row r))
denied_text names r (c ∷ cs) = unlike_text names r

-- a comparison with this op by its row; that of `!=` is the row of `=`, which is denied
abbrev pub row_comparison_text : Names → CompareOp → LinearConstraint → List ℕ
row_comparison_text names Less r = stated_text names r r.coefs
row_comparison_text names LessEq r = stated_text names r r.coefs
row_comparison_text names Equal r = stated_text names r r.coefs
row_comparison_text names NotEqual r = denied_text names r r.coefs
row_comparison_text names GreaterEq r = stated_text names r r.coefs
row_comparison_text names Greater r = stated_text names r r.coefs

-- ---- comparisons of texts, as they were written

-- the op, between blanks
abbrev pub compare_text : CompareOp → List ℕ
compare_text Less = codes " < "
compare_text LessEq = codes " <= "
compare_text Equal = codes " = "
compare_text NotEqual = codes " != "
compare_text GreaterEq = codes " >= "
compare_text Greater = codes " > "

-- the two operands with the op between them
abbrev pub written_text : Operand → CompareOp → Operand → List ℕ
written_text l op r = operand_text l ++ (compare_text op ++ operand_text r)

-- ---- both

-- what a negation denies, or a quantifier ranges over
abbrev pub below : GoalForm → GoalForm
below (atom a) = atom a
below always = always
below never = never
below (negation g) = g
below (every_of gs) = every_of gs
below (some_of gs) = some_of gs
below (implies f g) = implies f g
below (minus f g) = minus f g
below (exists s k g) = g
below (forall s k g) = g

-- the row of a comparison of numbers; a text atom and an atom of a name have none
abbrev pub atom_row : GoalAtom → Option LinearConstraint
atom_row (linear r) = Some r
atom_row (theme a) = None
atom_row (member n ts) = None

-- the row that a goal is
abbrev pub row_of : GoalForm → Option LinearConstraint
row_of (atom a) = atom_row a
row_of always = None
row_of never = None
row_of (negation g) = None
row_of (every_of gs) = None
row_of (some_of gs) = None
row_of (implies f g) = None
row_of (minus f g) = None
row_of (exists s k g) = None
row_of (forall s k g) = None

-- a comparison by its row, or as it was written where it has none
abbrev pub compared_text : Names → Operand → CompareOp → Operand → Option LinearConstraint → List ℕ
compared_text names l op r (Some row) = row_comparison_text names op row
compared_text names l op r None = written_text l op r

-- a comparison by its goal: that of numbers is a row, which is denied for `!=`, and that of texts is none
abbrev pub comparison_text : Names → Operand → CompareOp → Operand → GoalForm → List ℕ
comparison_text names l op r g = compared_text names l op r (row_of (below g))
