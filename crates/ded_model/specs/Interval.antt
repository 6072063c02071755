-- When a bound is the exact one.
use Rattle.std.specs.Prelude.{Bool}
use Rattle.ded_model.specs.declared.slot.Slot.{Slot}
use Rattle.ded_model.specs.declared.bound.Bound.{Bound}
use Rattle.ded_model.specs.declared.bound.Bound.TheVariants.{Infinite, Excluded, Included}
use Rattle.ded_model.specs.Point.{Point}
use Rattle.ded_model.specs.Bound.{End, IsUnbounded, IsIncluded, IsExcluded}

-- the bound is the exact one, at that end, of the values at the slot of all points that pass the test
abbrev pub IsExactBound : (Point → Bool) → Slot → End → Bound → Type 0
IsExactBound test s e Infinite = IsUnbounded test s e
IsExactBound test s e (Excluded f) = IsExcluded test s e f
IsExactBound test s e (Included f) = IsIncluded test s e f
