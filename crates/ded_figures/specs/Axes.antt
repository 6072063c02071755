-- The two columns of a heading that a picture is drawn over.
use Rattle.std.specs.Prelude.{◌≡◌, ℕ, ◌+◌, Bool, true, false, not, ◌&&◌, List, [], ◌∷◌, Option, Some, None, if◌then◌else◌}
use Rattle.std.specs.Str.{bytes_eq}
use Rattle.ded_model.specs.declared.name.Column.{Column}
use Rattle.ded_model.specs.declared.slot.Slot.{Slot}
use Rattle.ded_model.specs.declared.slot.Sort.{Sort}
use Rattle.ded_model.specs.declared.slot.Sort.TheVariants.{Rat, Text}
use Rattle.ded_model.specs.Point.{same_slot}
use Rattle.ded_figures.specs.declared.axes.Look.{Look}
use Rattle.ded_figures.specs.declared.axes.Look.TheVariants.{FirstTwo, Named, With}

-- the slots of two columns: the first one runs to the right, the second one upwards
pub record Axes : Type 0 where
  pub x : Slot
  pub y : Slot

-- they are rational, and differ
pub record AreAxes (a : Axes) : Type 0 where
  pub x : a.x.sort ≡ Rat
  pub y : a.y.sort ≡ Rat
  pub differ : same_slot a.x a.y ≡ false

-- the column is rational
abbrev pub is_rational : Column → Bool
is_rational c = of_sort c.sort
  where
    of_sort : Sort → Bool
    of_sort Rat = true
    of_sort Text = false

-- the slot of the rational column of this number
abbrev pub rational : ℕ → Slot
rational n = record { number = n; sort = Rat }

-- the slot isn't the given one
abbrev pub is_but : Option Slot → Slot → Bool
is_but None s = true
is_but (Some other) s = not (same_slot s other)

-- the slot of the first rational column of the name, of the columns from this number on
abbrev pub named : List ℕ → ℕ → List Column → Option Slot
named name n [] = None
named name n (c ∷ cs) = if is_rational c && bytes_eq c.name name then Some (rational n) else named name (n + 1) cs

-- the slot of the first rational column that isn't the given one, of the columns from this number on
abbrev pub first_but : Option Slot → ℕ → List Column → Option Slot
first_but other n [] = None
first_but other n (c ∷ cs) = if is_rational c && is_but other (rational n) then Some (rational n) else first_but other (n + 1) cs

-- both slots, where there are two and they differ
abbrev pub pair : Option Slot → Option Slot → Option Axes
pair None y = None
pair (Some x) None = None
pair (Some x) (Some y) = if same_slot x y then None else Some (record { x = x; y = y })

-- the columns that are drawn of a heading: the first two rational ones, two by their names, or one by its name and the first other one
abbrev pub axes_of : Look → List Column → Option Axes
axes_of FirstTwo h = pair (first_but None 0 h) (first_but (first_but None 0 h) 0 h)
axes_of (Named a b) h = pair (named a 0 h) (named b 0 h)
axes_of (With a) h = pair (named a 0 h) (first_but (named a 0 h) 0 h)

-- the slot is rational, if there is one
abbrev pub IsRationalSlot : Option Slot → Type 0
IsRationalSlot None = Unit {0}
IsRationalSlot (Some s) = s.sort ≡ Rat
