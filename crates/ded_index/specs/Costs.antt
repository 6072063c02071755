-- How many steps a visit of a range takes.
use Rattle.std.specs.Prelude.{◌≡◌, ◌+◌, ◌*◌, ◌^◌, ◌<◌, ◌≤◌, ℕ, true, List, length}
use Rattle.std.specs.List.{AllByRecursion}
use Rattle.ded_box.specs.Intervals.{may_meet}
use Rattle.ded_index.specs.declared.entry.BoxEntry.{BoxEntry}
use Rattle.ded_index.specs.Entries.{Box, first_of, low, near_first}

-- the entry begins before the window ends
abbrev pub Begins : Box → BoxEntry → Type 0
Begins w e = may_meet (low e) (first_of w).1 ≡ true

-- from `before` on, the steps of a visit of entries: with k near ones, in a range of height h, at most 2 k h + 2 h, and at most
-- 2 k h + 1 where all begin before the window ends
pub record IsCost (w : Box) (es : List BoxEntry) (before after : ℕ) : Type 0 where
  pub any : (h : ℕ) → length es < 2 ^ h → after ≤ before + (2 * (near_first w es * h) + 2 * h)
  pub begun : AllByRecursion (Begins w) es → (h : ℕ) → length es < 2 ^ h → after ≤ before + (2 * (near_first w es * h) + 1)
