-- The search tree in a list: the node of a range is its middle, and it has the greatest high end in the range.
use Rattle.std.specs.Prelude.{◌≡◌, ◌+◌, ◌/◌, ◌<◌, ℕ, zero, suc, true, false, List, [], ◌∷◌, map, take, drop, length, slice_index_or}
use Rattle.std.specs.List.{AllByRecursion}
use Rattle.std.specs.Ordering.{is_lt}
use Rattle.ded_model.specs.declared.bound.Bound.{Bound}
use Rattle.ded_box.specs.Intervals.{HasPositive, may_meet, has_value}
use Rattle.ded_box.specs.Boxes.{AreIntervals}
use Rattle.ded_index.specs.declared.entry.BoxEntry.{BoxEntry}
use Rattle.ded_index.specs.declared.tree.BoxNode.{BoxNode}
use Rattle.ded_index.specs.Entries.{first_of, high, SomeEntry}
use Rattle.ded_index.specs.Orders.{entry_order}

-- the entries of the nodes, in order
abbrev pub entries_of : List BoxNode → List BoxEntry
entries_of ns = map (λ n. n.entry) ns

-- the first doesn't begin after the second
abbrev pub NotAfter : BoxEntry → BoxEntry → Type 0
NotAfter a b = is_lt (entry_order b a) ≡ false

-- each begins no later than those after it
abbrev pub InOrder : List BoxEntry → Type 0
InOrder [] = Unit {0}
InOrder (e ∷ es) = AllByRecursion (NotAfter e) es × InOrder es

-- the high end of one of the entries, and none ends after it
pub record IsGreatest (es : List BoxEntry) (b : Bound) : Type 0 where
  pub upper : AllByRecursion (λ e. (w : Bound) → HasPositive w → may_meet w (high e) ≡ true → may_meet w b ≡ true) es
  pub attained : SomeEntry (λ e. high e ≡ b) es

-- the place of the middle of a range of nodes; of two middles it is the later one
abbrev pub middle_of : List BoxNode → ℕ
middle_of ns = length ns / 2

-- down to depth h each node of a range has its greatest high end
abbrev pub AreEnds : ℕ → List BoxNode → Type 0
AreEnds zero ns = Unit {0}
AreEnds (suc h) ns =
    ((d : BoxNode) → 0 < length ns → IsGreatest (entries_of ns) (slice_index_or ns (middle_of ns) d).end)
    × AreEnds h (take (middle_of ns) ns) × AreEnds h (drop (middle_of ns + 1) ns)

-- no first interval is empty
abbrev pub AreFull : List BoxEntry → Type 0
AreFull es = AllByRecursion (λ e. has_value (first_of e.bounds) ≡ true) es

-- the fractions of all bounds are values
abbrev pub AreSound : List BoxEntry → Type 0
AreSound es = AllByRecursion (λ e. AreIntervals e.bounds) es

-- a search tree
pub record IsTree (ns : List BoxNode) : Type 0 where
  pub order : InOrder (entries_of ns)
  pub full : AreFull (entries_of ns)
  pub sound : AreSound (entries_of ns)
  pub ends : (h : ℕ) → AreEnds h ns

-- the entries whose first interval is empty
pub record AreApart (es : List BoxEntry) : Type 0 where
  pub empty : AllByRecursion (λ e. has_value (first_of e.bounds) ≡ false) es
  pub sound : AreSound es

-- what an index keeps
pub record IsIndex (ns : List BoxNode) (es : List BoxEntry) : Type 0 where
  pub tree : IsTree ns
  pub apart : AreApart es
