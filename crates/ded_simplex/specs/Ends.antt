-- Ends of the values of a slot, as points, directions and rows show them.
use Rattle.std.specs.Prelude.{◌≡◌, ℤ, pos, ◌*ℤ◌, ◌<ℤ◌, int_lt, Bool, [], ◌∷◌}
use lib.IntN.{neg_ℤ}
use Rattle.ded_model.specs.declared.slot.Slot.{Slot}
use Rattle.ded_model.specs.declared.row.RowOp.{RowOp}
use Rattle.ded_model.specs.Constraint.{LinearConstraint}
use Rattle.ded_model.specs.Bound.{Fraction, End, lower, upper, IsLowest}

-- f is the number over the denominator, which is positive, in lowest terms
pub record IsValue (n d : ℤ) (f : Fraction) : Type 0 where
  pub over : pos 0 <ℤ d
  pub positive : pos 0 <ℤ f.den
  pub lowest : IsLowest f
  pub same : n *ℤ f.den ≡ f.num *ℤ d

-- the row that says of the slot's value, less f at the lower end and f less it at the upper one, how it compares with 0
abbrev pub beyond_row : End → Slot → Fraction → RowOp → LinearConstraint
beyond_row lower s f op = record { coefs = (s, f.den) ∷ []; constant = neg_ℤ f.num; op = op }
beyond_row upper s f op = record { coefs = (s, neg_ℤ f.den) ∷ []; constant = f.num; op = op }

-- a slot goes to the side where its number is below 0, or above 0
abbrev pub goes : End → ℤ → Bool
goes lower n = int_lt n (pos 0)
goes upper n = int_lt (pos 0) n
