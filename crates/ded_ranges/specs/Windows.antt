-- Windows: what is asked of the values of columns, and the tuples that may hold there.
use Rattle.std.specs.Prelude.{◌≡◌, ◌&&◌, ℕ, ℤ, Bool, true, false, Option, Some, None, List}
use Rattle.std.specs.Str.{bytes_eq}
use Rattle.std.specs.List.{list_all}
use Rattle.ded_model.specs.declared.slot.Sort.TheVariants.{Rat, Text}
use Rattle.ded_model.specs.Point.{Point, IsPoint, slot, number_at, text_at}
use Rattle.ded_model.specs.Row.{Atom, tuple_holds}
use Rattle.ded_model.specs.Sublists.{IsSublistWithout}
use Rattle.ded_ranges.specs.declared.window.Window.{Window}
use Rattle.ded_ranges.specs.Limits.{are_met}

-- ---- columns

-- the numerator in the column of the number, over the point's denominator
abbrev pub column_value : Point → ℕ → ℤ
column_value p i = number_at p (slot (record { number = i; sort = Rat }))

-- the text in the column of the number
abbrev pub column_text : Point → ℕ → List ℕ
column_text p i = text_at p (slot (record { number = i; sort = Text }))

-- ---- windows

-- the text stands in its column
abbrev pub is_text_met : Point → ℕ × List ℕ → Bool
is_text_met p t = bytes_eq (column_text p t.0) t.1

-- the values meet all limits, and the texts stand in their columns
abbrev pub is_within : Window → Point → Bool
is_within w p = are_met (column_value p) p.den w.limits.items && list_all (is_text_met p) w.texts.items

-- the tuple, over columns, holds nowhere in the window
abbrev pub IsMissed : Window → List Atom → Type 0
IsMissed w t = (p : Point) → IsPoint p → is_within w p ≡ true → tuple_holds t p ≡ false

-- the first list is the second one without tuples that hold nowhere in the window
abbrev pub IsNear : Window → List (List Atom) → List (List Atom) → Type 0
IsNear w found ts = IsSublistWithout (IsMissed w) found ts

-- the same, where there may be no lists
abbrev pub AreLent : Window → Option (List (List Atom)) → Option (List (List Atom)) → Type 0
AreLent w None None = Unit {0}
AreLent w None (Some ts) = ⊥
AreLent w (Some us) None = ⊥
AreLent w (Some us) (Some ts) = IsNear w us ts
