-- Boxes: reaches that overlap each reach in which limits may hold.
use Rattle.std.specs.Prelude.{◌≡◌, ◌==◌, ◌*ℤ◌, ◌&&◌, ◌||◌, ℤ, pos, Bool, true, List, [], ◌∷◌, length, Option}
use lib.IntN.{neg_ℤ}
use Rattle.ded_model.specs.declared.row.RowOp.{RowOp}
use Rattle.ded_ranges.specs.declared.reach.Range.{Range}
use Rattle.ded_ranges.specs.declared.limit.Limit.{Limit}
use Rattle.ded_ranges.specs.Codes.{fine, is_up_to}
use Rattle.ded_ranges.specs.Limits.{kept, plus, times, least_end, may_stand, may_meet, may_hold}

-- neither range ends before the other begins
abbrev pub overlap : Range → Range → Bool
overlap r s = is_up_to r.low s.high && is_up_to s.low r.high

-- place by place, as far as both have ranges
abbrev pub overlaps : List Range → List Range → Bool
overlaps [] ss = true
overlaps (r ∷ rs) [] = true
overlaps (r ∷ rs) (s ∷ ss) = overlap r s && overlaps rs ss

-- a number at most the sum of a multiple and a constant, in units, at all values of the range, or none
abbrev pub least_with : ℤ → ℤ → Range → Option ℤ
least_with a c r = plus (kept (c *ℤ pos fine)) (times a (least_end a r))

-- the range overlaps each in which a multiple and a constant may stand to 0 as the op says
abbrev pub IsRangeAround : Range → ℤ → ℤ → RowOp → Type 0
IsRangeAround r a c op = (s : Range) → may_stand op (least_with a c s) (least_with (neg_ℤ a) (neg_ℤ c) s) ≡ true → overlap r s ≡ true

-- of the reaches that pass the test, the second box overlaps each that the first one does
abbrev pub StaysAround : (List Range → Bool) → List Range → List Range → Type 0
StaysAround test old new = (rs : List Range) → overlaps old rs ≡ true → test rs ≡ true → overlaps new rs ≡ true

-- the limit has one term, which the box tells of, or it may be met in the reach
abbrev pub may_pass : List Range → Limit → Bool
may_pass rs l = length l.terms.items == 1 || may_meet rs l

-- the box overlaps each reach in which the limits may hold
abbrev pub IsAround : List Range → List Limit → Type 0
IsAround b ls = (rs : List Range) → may_hold rs ls ≡ true → overlaps b rs ≡ true
