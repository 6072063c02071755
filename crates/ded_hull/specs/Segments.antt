-- Segments: reaches of one range, the order of their middles, and hulls whose ends are ends of what they contain.
use Rattle.std.specs.Prelude.{◌≡◌, ◌+ℤ◌, ◌≤ℤ◌, ℕ, ℤ, pos, true, List, [], ◌∷◌, length, Option, Some, None}
use Rattle.std.specs.declared.cmp.Ordering.{Ordering}
use Rattle.std.specs.Ordering.{int_cmp}
use Rattle.ded_model.proofs.Lists.{Every, Some as SomeOf}
use Rattle.ded_ranges.specs.declared.reach.Range.{Range}
use Rattle.ded_hull.specs.declared.entry.ReachEntry.{ReachEntry}
use Rattle.ded_ranges.specs.Codes.{is_up_to}
use Rattle.ded_ranges.specs.Reaches.{range_at}

-- the first range of an entry
abbrev pub first_range : ReachEntry → Range
first_range e = range_at e.reach 0

-- the entry has one range, which doesn't end before it begins
pub record IsSegment (e : ReachEntry) : Type 0 where
  pub one : length e.reach ≡ 1
  pub ends : is_up_to (first_range e).low (first_range e).high ≡ true

-- each entry is a segment
abbrev pub AreSegments : List ReachEntry → Type 0
AreSegments es = Every IsSegment es

-- ---- middles

-- twice the middle between a low and a high end, or twice the one end that there is; 0 where there is none
abbrev pub middle_between : Option ℤ → Option ℤ → ℤ
middle_between None None = pos 0
middle_between None (Some h) = h +ℤ h
middle_between (Some l) None = l +ℤ l
middle_between (Some l) (Some h) = l +ℤ h

-- twice the middle of a range, or twice its one end
abbrev pub middle : Range → ℤ
middle r = middle_between r.low r.high

-- the order of the middles in a column
abbrev pub middle_order : ℕ → ReachEntry → ReachEntry → Ordering
middle_order p d e = int_cmp (middle (range_at d.reach p)) (middle (range_at e.reach p))

-- the first has its middle no later than the second
abbrev pub NotLater : ReachEntry → ReachEntry → Type 0
NotLater d e = middle (first_range d) ≤ℤ middle (first_range e)

-- each has its middle no later than those after it
abbrev pub InOrder : List ReachEntry → Type 0
InOrder [] = Unit {0}
InOrder (e ∷ es) = Every (NotLater e) es × InOrder es

-- each of the first ones has its middle no later than each of the others
abbrev pub AreBefore : List ReachEntry → List ReachEntry → Type 0
AreBefore ds es = Every (λ d. Every (NotLater d) es) ds

-- ---- hulls

-- one range, whose ends are ends of some of the entries
pub record IsHull (h : List Range) (es : List ReachEntry) : Type 0 where
  pub one : length h ≡ 1
  pub low : SomeOf (λ e. (first_range e).low ≡ (range_at h 0).low) es
  pub high : SomeOf (λ e. (first_range e).high ≡ (range_at h 0).high) es

-- the reach is that of the first entry, if there is one
abbrev pub IsFirst : List Range → List ReachEntry → Type 0
IsFirst h [] = Unit {0}
IsFirst h (e ∷ es) = h ≡ e.reach
