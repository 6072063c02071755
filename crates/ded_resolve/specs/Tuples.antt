-- Which comparisons have an atom that is normal, and the atoms of a goal.
use Rattle.std.specs.Prelude.{◌≡◌, Bool, false, ◌||◌, Option, Some, None, List, [], ◌∷◌}
use Rattle.ded_model.specs.declared.slot.Sort.TheVariants.{Text}
use Rattle.ded_model.specs.Row.{Atom}
use Rattle.ded_model.specs.Normal.{IsNormalRow, IsNormalTheme, IsNormalAtom}
use Rattle.ded_model.specs.Logic.{atom, Scope, Logics, AllAtomsOf, some_below, some_below_of}
use Rattle.ded_model.specs.Form.{Form, FormAtom, compare, member}
use Rattle.ded_model.specs.Goal.{linear, theme, GoalForm}
use Rattle.ded_model.specs.Known.{is_unbound_atom, is_text_sum, sorts_differ, operand_sort}
use Rattle.ded_model.specs.Slotted.{SlotScope, TextSide, at, word}
use Rattle.ded_model.specs.Plain.{IsPlain, IsPlainAtom}
use Rattle.ded_resolve.specs.Scope.{sorts_of, AreApart}

-- a text stands in a comparison where a number has to, or a number where a text has to
abbrev pub is_missorted_comparison : Scope → FormAtom → Bool
is_missorted_comparison scope (compare l op r) = is_text_sum scope l || is_text_sum scope r || sorts_differ op (operand_sort scope l) (operand_sort scope r)
is_missorted_comparison scope (member n ts) = false

-- a slot on this side is a text's
abbrev pub IsTextSide : TextSide → Type 0
IsTextSide (at s) = s.sort ≡ Text
IsTextSide (word t) = Unit {0}

-- a comparison's goal that is a row or a text atom is a normal one
abbrev pub IsNormalComparison : GoalForm → Type 0
IsNormalComparison (atom (linear r)) = IsNormalRow r
IsNormalComparison (atom (theme a)) = IsNormalTheme a
IsNormalComparison _ = Unit {0}

-- the atom, if there is one
abbrev pub found : Option Atom → List Atom
found None = []
found (Some a) = a ∷ []

-- each of the atoms is normal
abbrev pub AreNormalAtoms : List Atom → Type 0
AreNormalAtoms [] = Unit {0}
AreNormalAtoms (a ∷ atoms) = IsNormalAtom a × AreNormalAtoms atoms

-- in the scope each variable is bound, each sum has each name once, the sums of a comparison are over one denominator, and no
-- comparison has a text in the place of a number, or a number in the place of a text
pub record IsFitting (scope : SlotScope) (f : Form) : Type 0 where
  pub apart : AreApart scope
  pub plain : IsPlain f
  pub bound : some_below is_unbound_atom (sorts_of scope) f ≡ false
  pub sorted : some_below is_missorted_comparison (sorts_of scope) f ≡ false

-- so in each formula of a list
pub record AreFitting (scope : SlotScope) (fs : Logics FormAtom) : Type 0 where
  pub apart : AreApart scope
  pub plain : AllAtomsOf IsPlainAtom fs
  pub bound : some_below_of is_unbound_atom (sorts_of scope) fs ≡ false
  pub sorted : some_below_of is_missorted_comparison (sorts_of scope) fs ≡ false
