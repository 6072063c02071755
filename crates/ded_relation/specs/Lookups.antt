-- What a look-up of a relation's tuples reads, and the reaches by which these are looked up.
use Rattle.std.specs.Prelude.{◌≡◌, ◌<◌, ◌+◌, ℕ, [], length}
use Rattle.ded_ranges.specs.declared.window.Window.{Window}
use Rattle.ded_hull.specs.Entries.{ids_in, most_steps}
use Rattle.ded_hull.specs.Segments.{AreSegments}
use Rattle.ded_hull.specs.Trees.{AreAlong}
use Rattle.ded_relation.specs.Relations.{Relation, IsIndex}

-- the window asks for no text, and has some limits, each of one term at most, that some values meet
pub record IsAlong (w : Window) : Type 0 where
  pub texts : w.texts.items ≡ []
  pub some : 0 < length w.limits.items
  pub along : AreAlong w.limits.items

-- such a window, of a relation of one column
pub record IsLookup (w : Window) (r : Relation) : Type 0 where
  pub column : length r.heading ≡ 1
  pub window : IsAlong w

-- how many nodes of trees, entries and tuples a look-up may look at then: of the tuples one for each number that is found
abbrev pub most_reads : Window → Relation → ℕ
most_reads w r = most_steps w.limits.items r.reaches + length (ids_in w.limits.items r.reaches.entries)

-- each tuple has an entry with its number and a reach that contains its points, and where there is one column each entry is a segment
pub record HasReaches (r : Relation) : Type 0 where
  pub each : IsIndex r.reaches.entries r.tuples.entries
  pub segments : length r.heading ≡ 1 → AreSegments r.reaches.entries
