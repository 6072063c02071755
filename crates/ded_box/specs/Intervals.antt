-- Intervals: what is inside of a bound, the narrower and the wider of two, and which bounds leave a value between them.
use Rattle.std.specs.Prelude.{pos, ◌<ℤ◌, Bool, true, not, ◌&&◌, if◌then◌else◌}
use Rattle.ded_model.specs.declared.bound.Bound.{Bound}
use Rattle.ded_model.specs.declared.bound.Bound.TheVariants.{Infinite, Excluded, Included}
use Rattle.ded_model.specs.Bound.{Fraction, End, lower, upper, is_less, is_outside}
use Rattle.ded_box.specs.declared.interval.Side.{Side}
use Rattle.ded_box.specs.declared.interval.Side.TheVariants.{Lower, Upper}

-- the end of an interval that a side is
abbrev pub end_of : Side → End
end_of Lower = lower
end_of Upper = upper

-- ---- fractions and bounds

-- a value: a fraction with a denominator above 0
abbrev pub IsPositive : Fraction → Type 0
IsPositive f = pos 0 <ℤ f.den

-- the fraction of the bound, if it has one, has the property
abbrev pub OnFraction : (Fraction → Type 0) → Bound → Type 0
OnFraction P Infinite = Unit {0}
OnFraction P (Excluded f) = P f
OnFraction P (Included f) = P f

-- the bound has a value, if it has a fraction
abbrev pub HasPositive : Bound → Type 0
HasPositive b = OnFraction IsPositive b

-- the value is within the bound, at that end
abbrev pub is_inside : End → Bound → Fraction → Bool
is_inside e Infinite v = true
is_inside e (Excluded f) v = is_outside e f v
is_inside e (Included f) v = not (is_outside e v f)

-- the bound that lets through what both let through
abbrev pub narrower : End → Bound → Bound → Bound
narrower e Infinite b = b
narrower e (Excluded f) Infinite = Excluded f
narrower e (Excluded f) (Excluded g) = if is_outside e f g then Excluded g else Excluded f
narrower e (Excluded f) (Included g) = if is_outside e f g then Included g else Excluded f
narrower e (Included f) Infinite = Included f
narrower e (Included f) (Excluded g) = if is_outside e g f then Included f else Excluded g
narrower e (Included f) (Included g) = if is_outside e g f then Included f else Included g

-- the bound that lets through what one of them does
abbrev pub wider : End → Bound → Bound → Bound
wider e Infinite b = Infinite
wider e (Excluded f) Infinite = Infinite
wider e (Excluded f) (Excluded g) = if is_outside e g f then Excluded g else Excluded f
wider e (Excluded f) (Included g) = if is_outside e f g then Excluded f else Included g
wider e (Included f) Infinite = Infinite
wider e (Included f) (Excluded g) = if is_outside e g f then Excluded g else Included f
wider e (Included f) (Included g) = if is_outside e g f then Included g else Included f

-- some value is within both, the first a lower and the second an upper bound
abbrev pub may_meet : Bound → Bound → Bool
may_meet Infinite b = true
may_meet (Excluded f) Infinite = true
may_meet (Excluded f) (Excluded g) = is_less f g
may_meet (Excluded f) (Included g) = is_less f g
may_meet (Included f) Infinite = true
may_meet (Included f) (Excluded g) = is_less f g
may_meet (Included f) (Included g) = not (is_less g f)

-- ---- intervals: a lower and an upper bound

-- the value lies in the interval
abbrev pub is_within : Bound × Bound → Fraction → Bool
is_within i v = is_inside lower i.0 v && is_inside upper i.1 v

-- some value lies in the interval
abbrev pub has_value : Bound × Bound → Bool
has_value i = may_meet i.0 i.1

-- some value lies in both: neither is empty, and each begins before the other ends
abbrev pub intervals_meet : Bound × Bound → Bound × Bound → Bool
intervals_meet i j = has_value i && (has_value j && (may_meet i.0 j.1 && may_meet j.0 i.1))

-- the fractions of both bounds are values
abbrev pub IsInterval : Bound × Bound → Type 0
IsInterval i = HasPositive i.0 × HasPositive i.1
