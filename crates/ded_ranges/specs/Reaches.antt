-- Reaches: for each column the values between two ends, and the least reach that contains two.
use Rattle.std.specs.Prelude.{◌≡◌, ◌≤ℤ◌, ◌*ℤ◌, ℕ, zero, suc, ℤ, pos, true, false, int_lt, List, [], ◌∷◌, if◌then◌else◌, Option, Some, None}
use Rattle.ded_model.specs.declared.bound.Bound.{Bound}
use Rattle.ded_model.specs.declared.bound.Bound.TheVariants.{Infinite, Excluded, Included}
use Rattle.ded_model.specs.Bound.{Fraction, End, lower, upper, is_outside}
use Rattle.ded_model.proofs.Lists.{Every}
use Rattle.ded_ranges.specs.declared.reach.Range.{Range}
use Rattle.ded_ranges.specs.Codes.{fine, is_up_to}

-- ---- ends

-- the value num / den is at or above the low end, if there is one
abbrev pub IsAbove : Option ℤ → ℤ → ℕ → Type 0
IsAbove None num den = Unit {0}
IsAbove (Some k) num den = (k *ℤ pos den) ≤ℤ (num *ℤ pos fine)

-- the value num / den is at or below the high end, if there is one
abbrev pub IsBelow : Option ℤ → ℤ → ℕ → Type 0
IsBelow None num den = Unit {0}
IsBelow (Some k) num den = (num *ℤ pos fine) ≤ℤ (k *ℤ pos den)

-- the value v doesn't lie outside of the fraction of the bound, if it has one
abbrev pub NotOutside : End → Bound → Fraction → Type 0
NotOutside e Infinite v = Unit {0}
NotOutside e (Excluded f) v = is_outside e v f ≡ false
NotOutside e (Included f) v = is_outside e v f ≡ false

-- every value that the lower bound lets through is at or above the end
abbrev pub IsFloor : Bound → Option ℤ → Type 0
IsFloor b o = (num : ℤ) (den : ℕ) → NotOutside lower b (record { num = num; den = pos den }) → IsAbove o num den

-- every value that the upper bound lets through is at or below the end
abbrev pub IsCeil : Bound → Option ℤ → Type 0
IsCeil b o = (num : ℤ) (den : ℕ) → NotOutside upper b (record { num = num; den = pos den }) → IsBelow o num den

-- ---- reaches

-- the value num / den is between the ends
pub record IsIn (r : Range) (num : ℤ) (den : ℕ) : Type 0 where
  pub low : IsAbove r.low num den
  pub high : IsBelow r.high num den

-- all values
abbrev pub everywhere : Range
everywhere = record { low = None; high = None }

-- the range at a place, all values where there is none
abbrev pub range_at : List Range → ℕ → Range
range_at [] p = everywhere
range_at (r ∷ rs) zero = r
range_at (r ∷ rs) (suc p) = range_at rs p

-- the values with these numerators at the places, over one denominator, lie in the reach
abbrev pub Lies : List Range → (ℕ → ℤ) → ℕ → Type 0
Lies rs v den = (p : ℕ) → IsIn (range_at rs p) (v p) den

-- no range ends before it begins
abbrev pub AreOrdered : List Range → Type 0
AreOrdered rs = Every (λ r. is_up_to r.low r.high ≡ true) rs

-- ---- hulls

-- the lower of two low ends
abbrev pub lower_of : Option ℤ → Option ℤ → Option ℤ
lower_of None o = None
lower_of (Some a) None = None
lower_of (Some a) (Some b) = if int_lt b a then Some b else Some a

-- the higher of two high ends
abbrev pub higher_of : Option ℤ → Option ℤ → Option ℤ
higher_of None o = None
higher_of (Some a) None = None
higher_of (Some a) (Some b) = if int_lt a b then Some b else Some a

-- the least range that contains both
abbrev pub joined : Range → Range → Range
joined r s = record { low = lower_of r.low s.low; high = higher_of r.high s.high }

-- the least reach that contains both, place by place
abbrev pub hull : List Range → List Range → List Range
hull [] ss = []
hull (r ∷ rs) [] = everywhere ∷ hull rs []
hull (r ∷ rs) (s ∷ ss) = joined r s ∷ hull rs ss

-- o is no higher a low end than the other
abbrev pub NotAbove : Option ℤ → Option ℤ → Type 0
NotAbove None o = Unit {0}
NotAbove (Some a) None = ⊥
NotAbove (Some a) (Some b) = a ≤ℤ b

-- o is no lower a high end than the other
abbrev pub NotBelow : Option ℤ → Option ℤ → Type 0
NotBelow None o = Unit {0}
NotBelow (Some a) None = ⊥
NotBelow (Some a) (Some b) = b ≤ℤ a

-- the range is part of the other
pub record IsPart (r s : Range) : Type 0 where
  pub low : NotAbove s.low r.low
  pub high : NotBelow s.high r.high

-- the reach is part of the other
abbrev pub IsWithin : List Range → List Range → Type 0
IsWithin rs ss = (p : ℕ) → IsPart (range_at rs p) (range_at ss p)

-- ---- narrower reaches

-- the higher of two low ends
abbrev pub both_low : Option ℤ → Option ℤ → Option ℤ
both_low None o = o
both_low (Some a) None = Some a
both_low (Some a) (Some b) = if int_lt a b then Some b else Some a

-- the lower of two high ends
abbrev pub both_high : Option ℤ → Option ℤ → Option ℤ
both_high None o = o
both_high (Some a) None = Some a
both_high (Some a) (Some b) = if int_lt b a then Some b else Some a

-- the values that lie in both
abbrev pub met : Range → Range → Range
met r s = record { low = both_low r.low s.low; high = both_high r.high s.high }

-- with the range at a place, if there is one, narrowed to what lies in another one too
abbrev pub narrowed : List Range → ℕ → Range → List Range
narrowed [] p s = []
narrowed (r ∷ rs) zero s = met r s ∷ rs
narrowed (r ∷ rs) (suc p) s = r ∷ narrowed rs p s

-- so many ranges of all values
abbrev pub all_values : ℕ → List Range
all_values zero = []
all_values (suc n) = everywhere ∷ all_values n
