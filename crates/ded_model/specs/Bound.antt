-- Fractions, and the exact bounds of what holds at a slot.
use Rattle.std.specs.Prelude.{◌≡◌, ℤ, pos, ◌*ℤ◌, ◌<ℤ◌, int_lt, unsigned_abs, Bool, false, IsTrue}
use Rattle.ded_num.specs.Length.{IsShort}
use Rattle.ded_num.specs.Gcd.{nat_gcd}
use Rattle.ded_model.specs.declared.slot.Slot.{Slot}
use Rattle.ded_model.specs.Point.{Point, IsPoint, slot, number_at}

-- a numerator over a denominator
pub record Fraction : Type 0 where
  pub num : ℤ
  pub den : ℤ

-- what a fraction of the program keeps: numbers of at most 127 digits, and a denominator above 0
pub record IsFraction (f : Fraction) : Type 0 where
  pub num : IsShort f.num
  pub den : IsShort f.den
  pub positive : pos 0 <ℤ f.den

-- in lowest terms: the greatest common divisor of the numerator and the denominator is 1
abbrev pub IsLowest : Fraction → Type 0
IsLowest f = nat_gcd (unsigned_abs f.num) (unsigned_abs f.den) ≡ 1

-- ---- fractions and values

-- f is less than g
abbrev pub is_less : Fraction → Fraction → Bool
is_less f g = int_lt (f.num *ℤ g.den) (g.num *ℤ f.den)

-- the value at a slot
abbrev pub value_at : Slot → Point → Fraction
value_at s p = record { num = number_at p (slot s); den = pos p.den }

-- which end of an interval is meant
pub data End : Type 0 where
  lower : End
  upper : End

-- f lies outside of g: less than it for a lower end, greater for an upper one
abbrev pub is_outside : End → Fraction → Fraction → Bool
is_outside lower f g = is_less f g
is_outside upper f g = is_less g f

-- ---- exact bounds, of a test of points

-- some point that passes the test has a value outside of f
abbrev pub SomeOutside : (Point → Bool) → Slot → End → Fraction → Type 0
SomeOutside test s e f = (p : Point) × IsPoint p × IsTrue (test p) × IsTrue (is_outside e (value_at s p) f)

-- no point that passes the test has a value outside of f
abbrev pub NoneOutside : (Point → Bool) → Slot → End → Fraction → Type 0
NoneOutside test s e f = (p : Point) → IsPoint p → IsTrue (test p) → is_outside e (value_at s p) f ≡ false

-- some point that passes the test has the value f
abbrev pub SomeAt : (Point → Bool) → Slot → Fraction → Type 0
SomeAt test s f = (p : Point) × IsPoint p × IsTrue (test p) × (number_at p (slot s) *ℤ f.den ≡ f.num *ℤ pos p.den)

-- no end: outside of every fraction lies some value
abbrev pub IsUnbounded : (Point → Bool) → Slot → End → Type 0
IsUnbounded test s e = (f : Fraction) → pos 0 <ℤ f.den → SomeOutside test s e f

-- f is attained, and nothing lies outside of it
pub record IsIncluded (test : Point → Bool) (s : Slot) (e : End) (f : Fraction) : Type 0 where
  pub positive : pos 0 <ℤ f.den
  pub lowest : IsLowest f
  pub attained : SomeAt test s f
  pub none : NoneOutside test s e f

-- nothing has the value f or lies outside of it, and something lies outside of every fraction within it
pub record IsExcluded (test : Point → Bool) (s : Slot) (e : End) (f : Fraction) : Type 0 where
  pub positive : pos 0 <ℤ f.den
  pub lowest : IsLowest f
  pub free : SomeAt test s f → ⊥
  pub none : NoneOutside test s e f
  pub near : (g : Fraction) → pos 0 <ℤ g.den → IsTrue (is_outside e f g) → SomeOutside test s e g
