-- Worked questions on closures and interiors, and their answers, as in WorkedRows.
use Rattle.std.proofs.Common.{ℕ, List, [], ◌∷◌, refl}
use Rattle.std.specs.Prelude.{ℤ, pos, negsuc}
use Rattle.ded_model.specs.declared.slot.Sort.TheVariants.{Rat}
use Rattle.ded_model.specs.declared.slot.Slot.{Slot}
use Rattle.ded_model.specs.declared.formula.Operand.{Operand}
use Rattle.ded_model.specs.declared.formula.Operand.TheVariants.{Single, Sum}
use Rattle.ded_model.specs.declared.name.Column.{Column}
use Rattle.ded_model.specs.declared.row.RowOp.{RowOp}
use Rattle.ded_model.specs.declared.row.RowOp.TheVariants.{AtMost, Below}
use Rattle.ded_model.specs.declared.tuple.BothAtom.TheVariants.{First}
use Rattle.ded_model.specs.Made.{closure_name, interior_name}
use Rattle.ded_model.specs.Form.{Form, member}
use Rattle.ded_model.specs.Logic.{atom, exists}
use Rattle.ded_model.specs.Point.{name}
use Rattle.ded_model.specs.Row.{Atom}
use Rattle.ded_model.specs.Catalogue.{relation, view, Catalogue, IsTruth}
use Rattle.ded_laws.proofs.Computing.{truth, is_true, is_false}

abbrev s_name : List ℕ
s_name = 83 ∷ []

abbrev x : List ℕ
x = 120 ∷ []

abbrev column : Column
column = record { name = x; sort = Rat }

abbrev x_slot : Slot
x_slot = record { number = 0; sort = Rat }

-- a * x + c compared with 0
abbrev row : ℤ → ℤ → RowOp → Atom
row a c op = First (record { coefs = (x_slot, a) ∷ []; constant = c; op = op })

abbrev num : ℕ → Operand
num c = Sum (record { parts = []; constant = pos c; over = pos 1 })

abbrev pub closure_at : Operand → Form
closure_at t = atom (member (closure_name s_name) (t ∷ []))

abbrev interior_at : Operand → Form
interior_at t = atom (member (interior_name s_name) (t ∷ []))

-- S(x) = {x > 0, x < 1}
abbrev open_interval : Catalogue
open_interval = record { limit = 100; entries = relation s_name (column ∷ []) 1 ((1, row (negsuc 0) (pos 0) Below ∷ row (pos 1) (negsuc 0) Below ∷ []) ∷ []) ∷ [] }

closure_has_zero : IsTruth open_interval (closure_at (num 0))
unfolding truth
closure_has_zero = is_true open_interval (closure_at (num 0)) refl

closure_has_one : IsTruth open_interval (closure_at (num 1))
unfolding truth
closure_has_one = is_true open_interval (closure_at (num 1)) refl

closure_has_not_two : ¬ IsTruth open_interval (closure_at (num 2))
unfolding truth
closure_has_not_two = is_false open_interval (closure_at (num 2)) refl

-- S(x) = {x > 0, x < 0}
abbrev contradictory : Catalogue
contradictory = record { limit = 100; entries = relation s_name (column ∷ []) 1 ((1, row (negsuc 0) (pos 0) Below ∷ row (pos 1) (pos 0) Below ∷ []) ∷ []) ∷ [] }

closure_of_nothing_has_not_zero : ¬ IsTruth contradictory (closure_at (num 0))
unfolding truth
closure_of_nothing_has_not_zero = is_false contradictory (closure_at (num 0)) refl

-- exists x (closure(S)(x))
abbrev some_close : Form
some_close = exists Rat (name x) (closure_at (Single x))

closure_of_nothing_is_empty : ¬ IsTruth contradictory some_close
unfolding truth
closure_of_nothing_is_empty = is_false contradictory some_close refl

-- S(x) = {0 <= x <= 1} or {1 <= x <= 2}
abbrev two_closed : Catalogue
two_closed = record {
  limit = 100;
  entries = relation s_name (column ∷ []) 2 (
      (1, row (negsuc 0) (pos 0) AtMost ∷ row (pos 1) (negsuc 0) AtMost ∷ []) ∷ (2, row (negsuc 0) (pos 1) AtMost ∷ row (pos 1) (negsuc 1) AtMost ∷ []) ∷ []) ∷ [];
}

interior_has_one : IsTruth two_closed (interior_at (num 1))
unfolding truth
interior_has_one = is_true two_closed (interior_at (num 1)) refl

-- S(x) = {x > 0, x < 1} or {x > 1, x < 2}, and C(x) := closure(S)(x)
abbrev c_name : List ℕ
c_name = 67 ∷ []

abbrev two_open : Catalogue
two_open = record {
  limit = 100;
  entries = relation s_name (column ∷ []) 2 (
      (1, row (negsuc 0) (pos 0) Below ∷ row (pos 1) (negsuc 0) Below ∷ []) ∷ (2, row (negsuc 0) (pos 1) Below ∷ row (pos 1) (negsuc 1) Below ∷ []) ∷ [])
      ∷ view c_name (column ∷ []) (closure_at (Single x))
      ∷ [];
}

interior_has_not_one : ¬ IsTruth two_open (interior_at (num 1))
unfolding truth
interior_has_not_one = is_false two_open (interior_at (num 1)) refl

closure_of_both_has_one : IsTruth two_open (closure_at (num 1))
unfolding truth
closure_of_both_has_one = is_true two_open (closure_at (num 1)) refl
