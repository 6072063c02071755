-- Intervals of the values of one slot: the bounds that rows give.
use Rattle.std.specs.Prelude.{ℤ, pos, int_lt, nat_lt, Bool, false, ◌||◌, List, [], ◌∷◌, length, if◌then◌else◌}
use lib.IntN.{neg_ℤ}
use Rattle.std.specs.Ordering.{int_eq}
use Rattle.ded_model.specs.declared.slot.Slot.{Slot}
use Rattle.ded_model.specs.declared.row.RowOp.{RowOp}
use Rattle.ded_model.specs.declared.row.RowOp.TheVariants.{Zero, AtMost, Below}
use Rattle.ded_model.specs.declared.bound.Bound.{Bound}
use Rattle.ded_model.specs.declared.bound.Bound.TheVariants.{Infinite, Excluded, Included}
use Rattle.ded_model.specs.Constraint.{LinearConstraint}
use Rattle.ded_model.specs.Coefs.{coef_at}
use Rattle.ded_model.specs.Point.{same_slot}
use Rattle.ded_model.specs.Row.{sign_meets}
use Rattle.ded_model.specs.Bound.{Fraction, End, lower, upper}
use Rattle.ded_box.specs.Intervals.{narrower, may_meet}

-- ---- the bounds of a row over one slot

-- the value at which a times it plus c is 0, over a positive denominator
abbrev pub root_of : ℤ → ℤ → Fraction
root_of a c = if int_lt a (pos 0) then record { num = c; den = neg_ℤ a } else record { num = neg_ℤ c; den = a }

-- an inequality with the coefficient a bounds its slot at that end
abbrev pub faces : End → ℤ → Bool
faces lower a = int_lt a (pos 0)
faces upper a = int_lt (pos 0) a

-- the bound of `a x + c` compared with 0, where a isn't 0
abbrev pub bound_by : End → RowOp → ℤ → ℤ → Bound
bound_by e Zero a c = Included (root_of a c)
bound_by e AtMost a c = if faces e a then Included (root_of a c) else Infinite
bound_by e Below a c = if faces e a then Excluded (root_of a c) else Infinite

-- a row without the slot doesn't bound it
abbrev pub row_bound : End → Slot → LinearConstraint → Bound
row_bound e s r = if int_eq (coef_at r.coefs s) (pos 0) then Infinite else bound_by e r.op (coef_at r.coefs s) r.constant

-- the bound b narrowed by each of the rows
abbrev pub narrowed : End → Slot → Bound → List LinearConstraint → Bound
narrowed e s b [] = b
narrowed e s b (r ∷ rs) = narrowed e s (narrower e b (row_bound e s r)) rs

-- ---- rows of which each mentions one slot or none

-- whether the row has at most one coefficient
abbrev pub is_single : LinearConstraint → Bool
is_single r = nat_lt (length r.coefs) 2

-- a row without slots holds, and the bounds of a row's slot may meet, where that isn't s
abbrev pub coefs_fit : List LinearConstraint → Slot → LinearConstraint → List (Slot × ℤ) → Bool
coefs_fit rows s r [] = sign_meets r.op r.constant
coefs_fit rows s r (c ∷ cs) = same_slot c.0 s || may_meet (narrowed lower c.0 Infinite rows) (narrowed upper c.0 Infinite rows)

-- a row without slots holds, and the bounds that the rows give the row's first slot may meet, where that isn't s
abbrev pub row_fits : List LinearConstraint → Slot → LinearConstraint → Bool
row_fits rows s r = coefs_fit rows s r r.coefs

-- two lists of coefficients with the same first slot
abbrev pub same_places : List (Slot × ℤ) → List (Slot × ℤ) → Bool
same_places [] ds = false
same_places (c ∷ cs) [] = false
same_places (c ∷ cs) (d ∷ ds) = same_slot c.0 d.0

-- two rows with the same first slot; a row without slots has none
abbrev pub same_place : LinearConstraint → LinearConstraint → Bool
same_place q r = same_places q.coefs r.coefs
