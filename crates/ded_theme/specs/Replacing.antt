-- A slot replaced by a source, and what a comparison is then.
use Rattle.std.specs.Prelude.{◌≡◌, ℕ, nat_lt, Bool, true, false, ◌||◌, List, [], ◌∷◌, if◌then◌else◌}
use Rattle.std.specs.List.{AllByRecursion}
use Rattle.ded_model.specs.declared.slot.Slot.{Slot}
use Rattle.ded_model.specs.declared.slot.Sort.TheVariants.{Text}
use Rattle.ded_model.specs.declared.tuple.ThemeAtom.{ThemeAtom}
use Rattle.ded_model.specs.declared.tuple.ThemeAtom.TheVariants.{EqText, NeText, EqSlot, NeSlot}
use Rattle.ded_model.specs.Point.{Point, same_slot}
use Rattle.ded_model.specs.Row.{theme_holds, theme_mentions}
use Rattle.ded_model.specs.Normal.{IsNormalTheme}
use Rattle.ded_model.specs.Cell.{conj_holds}
use Rattle.ded_theory.specs.Conjunctions.{conj_mentions}
use Rattle.ded_theme.specs.declared.substitution.Made.{Made}
use Rattle.ded_theme.specs.declared.substitution.Made.TheVariants.{Always, Never, Atom}
use Rattle.ded_theme.specs.Sources.{Source, at, quoted, is_at, text_of, texts, left, right, is_equality, compares, IsNormalSource}

-- w in place of the slot
abbrev pub replaced : Slot → Source → Source → Source
replaced s w (at t) = if same_slot t s then w else at t
replaced s w (quoted t) = quoted t

-- the atom with w in place of the slot holds at the point
abbrev pub replaced_holds : Slot → Source → ThemeAtom → Point → Bool
replaced_holds s w a p = compares (is_equality a) (replaced s w (left a)) (replaced s w (right a)) (texts p)

-- what the atom with w in place of the slot mentions
abbrev pub replaced_mentions : Slot → Source → ThemeAtom → Slot → Bool
replaced_mentions s w a t = is_at t (replaced s w (left a)) || is_at t (replaced s w (right a))

-- ---- what is made of a comparison

-- the atom between the slot and the text
abbrev pub text_atom : Bool → Slot → List ℕ → ThemeAtom
text_atom true s t = EqText s t
text_atom false s t = NeText s t

-- the atom between two slots, the one of lesser number first
abbrev pub slots_atom : Bool → Slot → Slot → ThemeAtom
slots_atom true s t = if nat_lt s.number t.number then EqSlot s t else EqSlot t s
slots_atom false s t = if nat_lt s.number t.number then NeSlot s t else NeSlot t s

-- whether it holds at the point
abbrev pub made_holds : Made → Point → Bool
made_holds Always p = true
made_holds Never p = false
made_holds (Atom a) p = theme_holds a p

-- whether it mentions the slot
abbrev pub made_mentions : Made → Slot → Bool
made_mentions Always s = false
made_mentions Never s = false
made_mentions (Atom a) s = theme_mentions a s

-- an atom is in normal form
abbrev pub IsNormalMade : Made → Type 0
IsNormalMade Always = Unit {0}
IsNormalMade Never = Unit {0}
IsNormalMade (Atom a) = IsNormalTheme a

-- ---- atoms at a slot

-- wherever the atom holds, the slot has the text of the source, which is another one than the slot and one of the atom's
pub record IsPartner (s : Slot) (w : Source) (a : ThemeAtom) : Type 0 where
  pub equal : (p : Point) → theme_holds a p ≡ true → texts p s ≡ text_of w (texts p)
  pub other : is_at s w ≡ false
  pub sort : s.sort ≡ Text
  pub normal : IsNormalSource w
  pub mentioned : (t : Slot) → is_at t w ≡ true → theme_mentions a t ≡ true

-- the same of a conjunction
pub record IsPinned (s : Slot) (w : Source) (atoms : List ThemeAtom) : Type 0 where
  pub equal : (p : Point) → conj_holds theme_holds atoms p ≡ true → texts p s ≡ text_of w (texts p)
  pub other : is_at s w ≡ false
  pub sort : s.sort ≡ Text
  pub normal : IsNormalSource w
  pub mentioned : (t : Slot) → is_at t w ≡ true → conj_mentions theme_mentions atoms t ≡ true

-- no equality mentions the slot
abbrev pub IsFree : Slot → List ThemeAtom → Type 0
IsFree s = AllByRecursion (λ a. theme_mentions a s ≡ true → is_equality a ≡ false)

-- the atoms that don't mention the slot
abbrev pub kept : Slot → List ThemeAtom → List ThemeAtom
kept s [] = []
kept s (a ∷ atoms) = if theme_mentions a s then kept s atoms else a ∷ kept s atoms
