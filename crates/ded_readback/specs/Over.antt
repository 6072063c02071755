-- Whether the slots of atoms are columns, as tests.
use Rattle.std.specs.Prelude.{ℤ, ◌≤◌, Bool, ◌&&◌, List}
use Rattle.std.specs.List.{list_all}
use Rattle.ded_model.specs.declared.slot.Slot.{Slot}
use Rattle.ded_model.specs.declared.name.Column.{Column}
use Rattle.ded_model.specs.declared.tuple.ThemeAtom.{ThemeAtom}
use Rattle.ded_model.specs.declared.tuple.ThemeAtom.TheVariants.{EqText, NeText, EqSlot, NeSlot}
use Rattle.ded_model.specs.declared.tuple.BothAtom.TheVariants.{First, Second}
use Rattle.ded_model.specs.Point.{stands_in}
use Rattle.ded_model.specs.Row.{Atom}
use Rattle.ded_model.specs.Known.{heading_slots}
use Rattle.ded_model.specs.Width.{row_length}

-- the slot is that of a column
abbrev pub is_column : List Column → Slot → Bool
is_column h s = stands_in (heading_slots 0 h) s

-- each slot with a coefficient is that of a column
abbrev pub coefs_over : List Column → List (Slot × ℤ) → Bool
coefs_over h cs = list_all (λ c. is_column h c.0) cs

-- each slot of the text atom is that of a column
abbrev pub theme_over : List Column → ThemeAtom → Bool
theme_over h (EqText s t) = is_column h s
theme_over h (NeText s t) = is_column h s
theme_over h (EqSlot s t) = is_column h s && is_column h t
theme_over h (NeSlot s t) = is_column h s && is_column h t

-- each slot of the atom is that of a column
abbrev pub atom_over : List Column → Atom → Bool
atom_over h (First r) = coefs_over h r.coefs
atom_over h (Second a) = theme_over h a

-- numbers of at most 127 digits, or a text atom
abbrev pub IsShortAtom : Atom → Type 0
IsShortAtom (First r) = row_length r ≤ 127
IsShortAtom (Second a) = Unit {0}
