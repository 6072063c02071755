-- Order rows: rows that compare a slot with a number, or two slots with each other.
use Rattle.std.specs.Prelude.{◌≡◌, ℤ, pos, negsuc, Bool, true, false, ◌&&◌, ◌||◌, List, [], ◌∷◌}
use Rattle.std.specs.Ordering.{int_eq}
use Rattle.ded_model.specs.declared.slot.Slot.{Slot}
use Rattle.ded_model.specs.Constraint.{LinearConstraint}
use Rattle.ded_elimination.specs.LinearAtoms.{IsLinearAtom}

-- one of them is 1 and the other one -1
abbrev pub are_opposite_units : ℤ → ℤ → Bool
are_opposite_units a b = (int_eq a (pos 1) && int_eq b (negsuc 0)) || (int_eq a (negsuc 0) && int_eq b (pos 1))

-- no slot, one slot with any coefficient and constant, or two slots with the coefficients 1 and -1 and the constant 0
abbrev pub is_order_with : List (Slot × ℤ) → ℤ → Bool
is_order_with [] c = true
is_order_with (x ∷ []) c = true
is_order_with (x ∷ y ∷ []) c = int_eq c (pos 0) && are_opposite_units x.1 y.1
is_order_with (x ∷ y ∷ z ∷ cs) c = false

-- whether the row has no slot, one slot, or two slots with the coefficients 1 and -1 and the constant 0
abbrev pub is_order_row : LinearConstraint → Bool
is_order_row r = is_order_with r.coefs r.constant

-- an order row as eliminations work on it: rational slots in order with coefficients that aren't 0, in normal form
pub record IsOrderAtom (r : LinearConstraint) : Type 0 where
  pub linear : IsLinearAtom r
  pub order : is_order_row r ≡ true
