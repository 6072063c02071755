-- The default window of a picture: a little more than all its corners.
use Rattle.std.specs.Prelude.{ℕ, zero, suc, ◌-◌, ◌*◌, ◌/◌, ◌^◌, nat_le, nat_lt, ℤ, pos, ◌+ℤ◌, ◌-ℤ◌, ◌*ℤ◌, neg_ℤ, int_le, unsigned_abs, Bool, ◌&&◌, ◌||◌, List, [], ◌∷◌, if◌then◌else◌, Option, Some, None}
use Rattle.std.specs.Int.{int_div_euclid}
use Rattle.ded_polygon.specs.Plane.{Spot}
use Rattle.ded_polygon.specs.Windows.{Frame}
use Rattle.ded_axes.specs.Spans.{Span}
use Rattle.ded_axes.specs.declared.span.Reaches.{Reaches}

-- ---- what corners span, in whole units of 1 / den

-- z / d is below 2 ^ 60 units in size
abbrev pub is_near : ℤ → ℤ → ℤ → Bool
is_near den z d = nat_lt (unsigned_abs (z *ℤ den)) (1152921504606846976 * unsigned_abs d)

-- so are both coordinates
abbrev pub counts : ℤ → Spot → Bool
counts den c = is_near den c.x c.den && is_near den c.y c.den

-- the greatest whole number that is at most z / d, where d is above 0
abbrev pub floor : ℤ → ℤ → ℤ
floor z d = int_div_euclid z d

-- the least whole number that is at least z / d, where d is above 0
abbrev pub ceiling : ℤ → ℤ → ℤ
ceiling z d = neg_ℤ (int_div_euclid (neg_ℤ z) d)

-- the whole units around z / d
abbrev pub span_of : ℤ → ℤ → ℤ → Span
span_of den z d = record { low = floor (z *ℤ den) d; high = ceiling (z *ℤ den) d }

-- those around both coordinates of a spot
abbrev pub spans_of : ℤ → Spot → Reaches
spans_of den c = record { x = span_of den c.x c.den; y = span_of den c.y c.den }

-- the lesser of two whole numbers
abbrev pub least : ℤ → ℤ → ℤ
least a b = if int_le a b then a else b

-- the greater of two whole numbers
abbrev pub greatest : ℤ → ℤ → ℤ
greatest a b = if int_le a b then b else a

-- the least span that has both in it
abbrev pub joined_span : Span → Span → Span
joined_span s t = record { low = least s.low t.low; high = greatest s.high t.high }

-- the least spans of both coordinates that have both in them
abbrev pub joined : Reaches → Reaches → Reaches
joined s t = record { x = joined_span s.x t.x; y = joined_span s.y t.y }

-- with one spot more, whose spans these are; they alone where there were none
abbrev pub joined_with : Option Reaches → Reaches → Reaches
joined_with None t = t
joined_with (Some s) t = joined s t

-- with one spot more, where it counts
abbrev pub reached : ℤ → Option Reaches → Spot → Option Reaches
reached den found c = if counts den c then Some (joined_with found (spans_of den c)) else found

-- with all of these more
abbrev pub spans_from : ℤ → Option Reaches → List Spot → Option Reaches
spans_from den found [] = found
spans_from den found (c ∷ cs) = spans_from den (reached den found c) cs

-- of all spots that count; none where none counts
abbrev pub spans : ℤ → List Spot → Option Reaches
spans den cs = spans_from den None cs

-- ---- the denominator

-- how far apart the ends of a span are
abbrev pub length_of_span : Span → ℕ
length_of_span s = unsigned_abs (s.high -ℤ s.low)

-- the greater of two natural numbers
abbrev pub greater : ℕ → ℕ → ℕ
greater a b = if nat_le a b then b else a

-- the length of the longer one of both
abbrev pub extent : Reaches → ℕ
extent s = greater (length_of_span s.x) (length_of_span s.y)

-- the same where there are spans, and else 0
abbrev pub extent_of : Option Reaches → ℕ
extent_of None = 0
extent_of (Some s) = extent s

-- an end is at least 2 ^ 30 in size
abbrev pub is_far_span : Span → Bool
is_far_span s = nat_le 1073741824 (unsigned_abs s.low) || nat_le 1073741824 (unsigned_abs s.high)

-- an end of either span is
abbrev pub is_far : Reaches → Bool
is_far s = is_far_span s.x || is_far_span s.y

-- the exponent of the least power of ten at which the corners span 1000 units or more, among the greatest ones up to 9, so many; 9
-- where there is none, but 0 where they span less than 2 units even there, as corners at one place do
unfoldable pub exponent_from : ℕ → List Spot → ℕ
exponent_from zero cs = if nat_le 2 (extent_of (spans (pos (10 ^ 9)) cs)) then 9 else 0
exponent_from (suc k) cs = if nat_le 1000 (extent_of (spans (pos (10 ^ (10 - suc k))) cs)) then (10 - suc k) else exponent_from k cs

-- 0 where no corner counts, or one is far
abbrev pub exponent_at : Option Reaches → List Spot → ℕ
exponent_at None cs = 0
exponent_at (Some s) cs = if is_far s then 0 else exponent_from 10 cs

-- the exponent of the power of ten that is the denominator of the default window around these corners
abbrev pub exponent : List Spot → ℕ
exponent cs = exponent_at (spans (pos 1) cs) cs

-- ---- the window

-- a twentieth of the extent, and at least one unit
abbrev pub margin : Reaches → ℕ
margin s = greater 1 (extent s / 20)

-- the spans and a margin on each side
abbrev pub framed : ℤ → ℤ → Reaches → Frame
framed den m s = record { left = s.x.low -ℤ m; right = s.x.high +ℤ m; bottom = s.y.low -ℤ m; top = s.y.high +ℤ m; den = den }

-- the same with the margin that belongs to the spans
abbrev pub widened : ℤ → Reaches → Frame
widened den s = framed den (pos (margin s)) s

-- from -10 to 10 both ways
abbrev pub usual_frame : Frame
usual_frame = record { left = neg_ℤ (pos 10); right = pos 10; bottom = neg_ℤ (pos 10); top = pos 10; den = pos 1 }

-- the same where there are spans, and else the usual window
abbrev pub widened_if_some : ℤ → Option Reaches → Frame
widened_if_some den None = usual_frame
widened_if_some den (Some s) = widened den s

-- in units of one over the denominator
abbrev pub frame_at : ℤ → List Spot → Frame
frame_at den cs = widened_if_some den (spans den cs)

-- The default window around corners.
abbrev pub frame_around : List Spot → Frame
frame_around cs = frame_at (pos (10 ^ exponent cs)) cs
