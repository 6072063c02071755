-- Entries of an index: boxes under numbers, and which of them meet a window.
use Rattle.std.specs.Prelude.{◌≡◌, ◌+◌, ◌*◌, ◌↔◌, ◌⊎◌, ℕ, pos, Bool, nat_eq, not, List, [], ◌∷◌, length, if◌then◌else◌}
use Rattle.std.specs.List.{Contains, filter, list_any}
use Rattle.std.specs.List.Sorted.{IsStrictlyIncreasing}
use Rattle.ded_num.specs.Length.{length_of}
use Rattle.ded_model.specs.declared.bound.Bound.{Bound}
use Rattle.ded_model.specs.declared.bound.Bound.TheVariants.{Infinite}
use Rattle.ded_box.specs.Intervals.{intervals_meet}
use Rattle.ded_box.specs.Boxes.{Shared, boxes_meet}
use Rattle.ded_index.specs.declared.entry.BoxEntry.{BoxEntry}

-- a box: a lower and an upper bound for each column
abbrev pub Box : Type 0
Box = List (Bound × Bound)

-- the first interval, all values where there is none
abbrev pub first_of : Box → Bound × Bound
first_of [] = (Infinite, Infinite)
first_of (i ∷ is) = i

-- the low end of an entry's first interval
abbrev pub low : BoxEntry → Bound
low e = (first_of e.bounds).0

-- the high end of an entry's first interval
abbrev pub high : BoxEntry → Bound
high e = (first_of e.bounds).1

-- the boxes under their positions, from k on
abbrev pub numbered : ℕ → List Box → List BoxEntry
numbered k [] = []
numbered k (b ∷ bs) = record { id = k; bounds = b } ∷ numbered (k + 1) bs

-- some entry has the number
abbrev pub has_id : ℕ → List BoxEntry → Bool
has_id i es = list_any (λ e. nat_eq e.id i) es

-- the entries that don't have the number, in order
abbrev pub without : ℕ → List BoxEntry → List BoxEntry
without i es = filter (λ e. not (nat_eq e.id i)) es

-- it is so of some entry
abbrev pub SomeEntry : (BoxEntry → Type 0) → List BoxEntry → Type 0
SomeEntry P [] = ⊥
SomeEntry P (e ∷ es) = P e ⊎ SomeEntry P es

-- the numbers of the entries whose boxes meet the window, in order
abbrev pub ids_in : Box → List BoxEntry → List ℕ
ids_in w [] = []
ids_in w (e ∷ es) = if boxes_meet e.bounds w then e.id ∷ ids_in w es else ids_in w es

-- the count of entries whose first intervals meet that of the window
abbrev pub near_first : Box → List BoxEntry → ℕ
near_first w [] = 0
near_first w (e ∷ es) = (if intervals_meet (first_of e.bounds) (first_of w) then 1 else 0) + near_first w es

-- the numbers of the entries whose boxes share values with the window, ascending
pub record AreFound (w : Box) (es : List BoxEntry) (ids : List ℕ) : Type 0 where
  pub ascending : IsStrictlyIncreasing ids
  pub exact : (i : ℕ) → Contains ids i ↔ SomeEntry (λ e. (e.id ≡ i) × Shared e.bounds w) es

-- how many steps a look-up may take, with k near entries of n: (2 k + 2) (d + 1), where d is the count of binary digits of n
abbrev pub most_steps : Box → List BoxEntry → ℕ
most_steps w es = (2 * near_first w es + 2) * (length_of (pos (length es)) + 1)
