-- Text atoms as comparisons of two sources of a text.
use Rattle.std.specs.Prelude.{◌≡◌, ℕ, Bool, true, false, not, List, Option, Some, None}
use Rattle.std.specs.Str.{bytes_eq}
use Rattle.ded_model.specs.declared.slot.Slot.{Slot}
use Rattle.ded_model.specs.declared.slot.Sort.{Sort}
use Rattle.ded_model.specs.declared.slot.Sort.TheVariants.{Rat, Text}
use Rattle.ded_model.specs.declared.tuple.ThemeAtom.{ThemeAtom}
use Rattle.ded_model.specs.declared.tuple.ThemeAtom.TheVariants.{EqText, NeText, EqSlot, NeSlot}
use Rattle.ded_model.specs.Point.{slot, Point, AllBytes, same_slot, text_at}
use Rattle.ded_theme.specs.declared.words.Word.{Word}
use Rattle.ded_theme.specs.declared.words.Word.TheVariants.{At, Quoted}

-- where a comparison takes a text from: a slot, or a quoted text
pub data Source : Type 0 where
  at : Slot → Source
  quoted : List ℕ → Source

-- what a word of the program is
abbrev pub source : Word → Source
source (At s) = at s
source (Quoted t) = quoted t.now

-- the text, given those of the slots
abbrev pub text_of : Source → (Slot → List ℕ) → List ℕ
text_of (at s) f = f s
text_of (quoted t) f = t

-- the texts of the slots at a point
abbrev pub texts : Point → Slot → List ℕ
texts p s = text_at p (slot s)

-- whether it is the slot
abbrev pub is_at : Slot → Source → Bool
is_at s (at t) = same_slot t s
is_at s (quoted t) = false

-- a text slot, or a text of bytes
abbrev pub IsNormalSource : Source → Type 0
IsNormalSource (at s) = s.sort ≡ Text
IsNormalSource (quoted t) = AllBytes t

-- ---- an atom as a comparison

-- whether the sides are to be equal
abbrev pub is_equality : ThemeAtom → Bool
is_equality (EqText s t) = true
is_equality (NeText s t) = false
is_equality (EqSlot s t) = true
is_equality (NeSlot s t) = false

-- the slot that stands first
abbrev pub left : ThemeAtom → Source
left (EqText s t) = at s
left (NeText s t) = at s
left (EqSlot s t) = at s
left (NeSlot s t) = at s

-- the slot to which it gives one text, and that text
abbrev pub fixed_by : ThemeAtom → Option (Slot × List ℕ)
fixed_by (EqText s t) = Some (s, t)
fixed_by (NeText s t) = None
fixed_by (EqSlot s t) = None
fixed_by (NeSlot s t) = None

-- what it is compared with
abbrev pub right : ThemeAtom → Source
right (EqText s t) = quoted t
right (NeText s t) = quoted t
right (EqSlot s t) = at t
right (NeSlot s t) = at t

-- the texts of both sources are equal, or differ, as the first argument says
abbrev pub compares : Bool → Source → Source → (Slot → List ℕ) → Bool
compares true v w f = bytes_eq (text_of v f) (text_of w f)
compares false v w f = not (bytes_eq (text_of v f) (text_of w f))

-- the sorts of slots that text atoms mention
abbrev pub owns_sort : Sort → Bool
owns_sort Rat = false
owns_sort Text = true
