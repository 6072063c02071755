-- Worked formulas and whether they are orderly, as theorems on the definitions.
use Rattle.std.proofs.Common.{◌≡◌, ℕ, List, [], ◌∷◌, refl, sym, true≢false}
use Rattle.std.specs.Prelude.{ℤ, pos, negsuc}
use Rattle.ded_num.specs.Gcd.{nat_gcd}
use Rattle.ded_num.specs.Length.{length_of}
use Rattle.ded_model.specs.declared.slot.Sort.TheVariants.{Rat}
use Rattle.ded_model.specs.declared.formula.CompareOp.TheVariants.{LessEq}
use Rattle.ded_model.specs.declared.formula.Operand.{Operand}
use Rattle.ded_model.specs.declared.formula.Operand.TheVariants.{Single, Sum}
use Rattle.ded_model.specs.declared.name.Column.{Column}
use Rattle.ded_model.specs.declared.row.RowOp.TheVariants.{AtMost}
use Rattle.ded_model.specs.declared.tuple.BothAtom.TheVariants.{First}
use Rattle.ded_model.specs.Catalogue.{relation, view, Catalogue}
use Rattle.ded_model.specs.Form.{Form, compare, member}
use Rattle.ded_model.specs.Logic.{atom, every_of, exists, none, also}
use Rattle.ded_model.specs.Made.{closure_name, reading}
use Rattle.ded_model.specs.Normal.{normal_row}
use Rattle.ded_model.specs.Point.{name}
use Rattle.ded_model.specs.Slotted.{goal_of}
use Rattle.ded_model.specs.Sum.{denominator}
use Rattle.ded_width.specs.Orderly.{stored_orders, orders, IsOrderly, IsShortReach, reached_points}

-- ---- how formulas are written

abbrev x : List ℕ
x = 120 ∷ []

abbrev y : List ℕ
y = 121 ∷ []

abbrev z : List ℕ
z = 122 ∷ []

abbrev t_name : List ℕ
t_name = 84 ∷ []

abbrev v_name : List ℕ
v_name = 86 ∷ []

abbrev column : List ℕ → Column
column v = record { name = v; sort = Rat }

abbrev times_of : ℤ → List ℕ → Operand
times_of k v = Sum (record { parts = (v, k) ∷ []; constant = pos 0; over = pos 1 })

abbrev of_number : ℤ → Operand
of_number k = Sum (record { parts = []; constant = k; over = pos 1 })

-- T(x) = {4*x <= 1}, and the view V(x) := exists y (x <= y and T(y))
abbrev entries_of : Catalogue
entries_of = record {
  limit = 1;
  entries = relation t_name (column x ∷ []) 1 ((1, First (record { coefs = (record { number = 0; sort = Rat }, pos 4) ∷ []; constant = negsuc 0; op = AtMost }) ∷ []) ∷ [])
      ∷ view v_name (column x ∷ []) (exists Rat (name y) (every_of (also (atom (compare (Single x) LessEq (Single y))) (also (atom (member t_name (Single y ∷ []))) none))))
      ∷ [];
}

-- exists z (x <= z and z <= y and V(z) and 3*x <= 7)
abbrev chain : Form
chain = exists Rat (name z)
    (every_of (also (atom (compare (Single x) LessEq (Single z))) (also (atom (compare (Single z) LessEq (Single y)))
    (also (atom (member v_name (Single z ∷ []))) (also (atom (compare (times_of (pos 3) x) LessEq (of_number (pos 7)))) none)))))

abbrev over_both : List Column
over_both = column x ∷ column y ∷ []

-- ---- what is orderly

-- it is orderly and short, and reaches the numbers of 4*x <= 1 and of 3*x <= 7
chain_orderly : IsOrderly entries_of over_both chain
unfolding IsOrderly goal_of orders stored_orders reading normal_row denominator nat_gcd
chain_orderly = refl

chain_short : IsShortReach entries_of over_both chain
unfolding IsShortReach goal_of orders stored_orders reading normal_row denominator nat_gcd length_of
chain_short = refl

chain_points : reached_points entries_of over_both chain ≡ (pos 4, negsuc 0) ∷ (pos 3, negsuc 6) ∷ []
unfolding reached_points goal_of orders stored_orders reading normal_row denominator nat_gcd
chain_points = refl

-- an argument that is a number has an order row
number_orderly : IsOrderly entries_of over_both (atom (member v_name (of_number (pos 5) ∷ [])))
unfolding IsOrderly goal_of orders stored_orders reading normal_row denominator nat_gcd
number_orderly = refl

number_points : reached_points entries_of over_both (atom (member v_name (of_number (pos 5) ∷ []))) ≡ (pos 4, negsuc 0) ∷ (pos 1, negsuc 4) ∷ []
unfolding reached_points goal_of orders stored_orders reading normal_row denominator nat_gcd
number_points = refl

-- ---- what is not

multiple_argument : IsOrderly entries_of over_both (atom (member v_name (times_of (pos 2) x ∷ []))) → ⊥
unfolding IsOrderly goal_of orders stored_orders reading normal_row denominator nat_gcd
multiple_argument h = true≢false (sym h)

multiple_comparison : IsOrderly entries_of over_both (atom (compare (times_of (pos 2) x) LessEq (Single y))) → ⊥
unfolding IsOrderly goal_of orders stored_orders reading normal_row denominator nat_gcd
multiple_comparison h = true≢false (sym h)

-- nor is a formula that speaks of a closure
closure_atom : IsOrderly entries_of over_both (atom (member (closure_name t_name) (Single x ∷ []))) → ⊥
unfolding IsOrderly goal_of orders stored_orders reading
closure_atom h = true≢false (sym h)
