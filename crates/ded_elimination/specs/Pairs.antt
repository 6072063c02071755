-- What rows that bound a slot ask together.
use Rattle.std.specs.Prelude.{◌≡◌, pos, ◌<ℤ◌, true, List, length}
use Rattle.ded_model.specs.declared.slot.Slot.{Slot}
use Rattle.ded_model.specs.Constraint.{LinearConstraint}
use Rattle.ded_model.specs.Point.{Point}
use Rattle.ded_model.specs.Coefs.{coef_at}
use Rattle.ded_model.specs.Row.{row_holds}
use Rattle.ded_row.specs.Mixing.{mix_of}
use Rattle.ded_elimination.specs.Adding.{OfFirst}

-- a row without the slot holds
abbrev pub LevelHolds : Slot → LinearConstraint → Point → Type 0
LevelHolds s r p = coef_at r.coefs s ≡ pos 0 → row_holds r p ≡ true

-- the combination of u with a row that bounds the slot from below holds
abbrev pub PairHolds : Slot → LinearConstraint → LinearConstraint → Point → Type 0
PairHolds s u l p = coef_at l.coefs s <ℤ pos 0 → row_holds (mix_of s u l) p ≡ true

-- where u bounds the slot from above, its combinations with all rows that bound the slot from below hold
abbrev pub UpperHolds : Slot → List LinearConstraint → LinearConstraint → Point → Type 0
UpperHolds s rows u p = pos 0 <ℤ coef_at u.coefs s → OfFirst (PairHolds s u) rows (length rows) p
