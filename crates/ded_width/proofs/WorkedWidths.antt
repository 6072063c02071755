-- Worked formulas and whether they are narrow, as theorems on the definitions.
use Rattle.std.proofs.Common.{◌≡◌, ℕ, zero, suc, ◌*◌, ◌+◌, ◌^◌, ◌≤◌, ◌<◌, sym, subst, List, [], ◌∷◌, refl, arith}
use Rattle.std.specs.Prelude.{pos, negsuc}
use Rattle.ded_num.specs.Length.{length_of}
use Rattle.ded_num.specs.Gcd.{nat_gcd}
use Rattle.ded_model.specs.declared.slot.Sort.TheVariants.{Rat}
use Rattle.ded_model.specs.declared.formula.CompareOp.TheVariants.{LessEq}
use Rattle.ded_model.specs.declared.formula.Operand.{Operand}
use Rattle.ded_model.specs.declared.formula.Operand.TheVariants.{Single, Sum}
use Rattle.ded_model.specs.declared.name.Column.{Column}
use Rattle.ded_model.specs.declared.row.RowOp.TheVariants.{AtMost}
use Rattle.ded_model.specs.declared.tuple.BothAtom.TheVariants.{First}
use Rattle.ded_model.specs.Sum.{denominator}
use Rattle.ded_model.specs.Normal.{normal_row}
use Rattle.ded_model.specs.Form.{Form, compare, member}
use Rattle.ded_model.specs.Logic.{atom, every_of, exists, none, also}
use Rattle.ded_model.specs.Point.{name}
use Rattle.ded_model.specs.Catalogue.{relation, view, Catalogue}
use Rattle.ded_model.specs.Slotted.{goal_of}
use Rattle.ded_model.specs.Made.{reading}
use Rattle.ded_model.specs.Measure.{goal_b, goal_rank, measures, IsNarrow, stored_measures}
use Rattle.ded_model.specs.Width.{IsNarrowWith}

-- ---- how formulas are written

abbrev x : List ℕ
x = 120 ∷ []

abbrev y : List ℕ
y = 121 ∷ []

abbrev column : List ℕ → Column
column v = record { name = v; sort = Rat }

abbrev twice_of : List ℕ → Operand
twice_of v = Sum (record { parts = (v, pos 2) ∷ []; constant = pos 0; over = pos 1 })

-- exists v (..), k times
abbrev some_of_times : ℕ → List ℕ → Form → Form
some_of_times zero v f = f
some_of_times (suc k) v f = exists Rat (name v) (some_of_times k v f)

-- y <= 2*x
abbrev below_twice : Form
below_twice = atom (compare (Single y) LessEq (twice_of x))

abbrev over_y : List Column
over_y = column y ∷ []

abbrev empty : Catalogue
empty = record { limit = 1; entries = [] }

abbrev t_name : List ℕ
t_name = 84 ∷ []

abbrev v_name : List ℕ
v_name = 86 ∷ []

-- T(x) = {4*x <= 1}, and the view V(y) := exists x (y <= 2*x)
abbrev with_view : Catalogue
with_view = record {
  limit = 1;
  entries = relation t_name (column x ∷ []) 1 ((1, First (record { coefs = (record { number = 0; sort = Rat }, pos 4) ∷ []; constant = negsuc 0; op = AtMost }) ∷ []) ∷ [])
      ∷ view v_name over_y (some_of_times 1 x below_twice)
      ∷ [];
}

-- V(2*y): an argument that counts as a quantifier, on top of the one in the view
abbrev view_of_twice : Form
view_of_twice = atom (member v_name (twice_of y ∷ []))

-- T(y) and V(2*y)
abbrev both_names : Form
both_names = every_of (also (atom (member t_name (Single y ∷ []))) (also view_of_twice none))

-- ---- what decides

IsWidth : Catalogue → List Column → Form → ℕ → ℕ → Type 0
IsWidth c h f b q = (goal_b (measures c) (goal_of h f) ≡ b) × (goal_rank (measures c) (goal_of h f) ≡ q)

narrow_at : (c : Catalogue) (h : List Column) (f : Form) (b q : ℕ) → IsWidth c h f b q → IsNarrowWith b q → IsNarrow c h f
unfolding IsNarrow IsWidth
narrow_at c h f b q w n = subst (λ m. IsNarrowWith m (goal_rank (measures c) (goal_of h f))) (sym w.0) (subst (IsNarrowWith b) (sym w.1) n)

wide_at : (c : Catalogue) (h : List Column) (f : Form) (b q : ℕ) → IsWidth c h f b q → 128 < (b + 1) * 2 ^ q → IsNarrow c h f → ⊥
unfolding IsNarrow IsWidth
wide_at c h f b q w l n = absurd_of (subst (IsNarrowWith b) w.1 (subst (λ m. IsNarrowWith m (goal_rank (measures c) (goal_of h f))) w.0 n))
  where
    absurd_of : (b + 1) * 2 ^ q ≤ 128 → ⊥
    absurd_of m = omega (arith, l, m)

-- ---- comparisons

-- exists x (y <= 2*x) over y: numbers of 2 digits, and one quantifier
once_width : IsWidth empty over_y (some_of_times 1 x below_twice) 2 1
unfolding IsWidth goal_of measures stored_measures reading normal_row denominator length_of nat_gcd
once_width = (refl, refl)

once_narrow : IsNarrow empty over_y (some_of_times 1 x below_twice)
once_narrow = narrow_at empty over_y _ 2 1 once_width (omega arith)

-- five such quantifiers are narrow, 3 * 2 ^ 5 being 96, and six are not
five_width : IsWidth empty over_y (some_of_times 5 x below_twice) 2 5
unfolding IsWidth goal_of measures stored_measures reading normal_row denominator length_of nat_gcd
five_width = (refl, refl)

five_narrow : IsNarrow empty over_y (some_of_times 5 x below_twice)
five_narrow = narrow_at empty over_y _ 2 5 five_width (omega arith)

six_width : IsWidth empty over_y (some_of_times 6 x below_twice) 2 6
unfolding IsWidth goal_of measures stored_measures reading normal_row denominator length_of nat_gcd
six_width = (refl, refl)

six_wide : IsNarrow empty over_y (some_of_times 6 x below_twice) → ⊥
six_wide = wide_at empty over_y _ 2 6 six_width (omega arith)

-- ---- names

-- T(y) and V(2*y): the view's quantifier and the argument count, and the relation's number has 3 digits
names_width : IsWidth with_view over_y both_names 3 2
unfolding IsWidth goal_of measures stored_measures reading normal_row denominator length_of nat_gcd
names_width = (refl, refl)

names_narrow : IsNarrow with_view over_y both_names
names_narrow = narrow_at with_view over_y _ 3 2 names_width (omega arith)
