-- Conjunctions of atoms of any kind: what they mention, their lines, and when they are not narrow.
use Rattle.std.specs.Prelude.{◌≡◌, ◌<◌, ◌+◌, ◌*◌, ◌^◌, ℕ, Bool, true, List, [], ◌∷◌, ◌++◌, length}
use Rattle.std.specs.List.{list_any}
use Rattle.ded_model.specs.declared.slot.Slot.{Slot}
use Rattle.ded_model.specs.declared.slot.Sort.TheVariants.{Rat}
use Rattle.ded_model.specs.Point.{stands_in}
use Rattle.ded_model.specs.Lines.{Line, AreWithin}

-- some atom mentions the slot
abbrev pub conj_mentions : {A : Type 0} → (A → Slot → Bool) → List A → Slot → Bool
conj_mentions mentions atoms s = list_any (λ a. mentions a s) atoms

-- the lines of the atoms, one after another
abbrev pub conj_lines : {A : Type 0} → (A → List Line) → List A → List Line
conj_lines lines [] = []
conj_lines lines (a ∷ atoms) = lines a ++ conj_lines lines atoms

-- the list has all rational slots that pass the test
abbrev pub HasRationals : (Slot → Bool) → List Slot → Type 0
HasRationals test ss = (s : Slot) → test s ≡ true → s.sort ≡ Rat → stands_in ss s ≡ true

-- eliminating all rational slots, begun with lines of at most b digits, may leave more than 127 digits: so it is for each b
-- that bounds the lines, and each list of slots that has the rational ones
pub record IsWide {A : Type 0} (mentions : A → Slot → Bool) (lines : A → List Line) (atoms : List A) : Type 0 where
  pub above : (b : ℕ) → AreWithin b (conj_lines lines atoms) → (ss : List Slot) → HasRationals (conj_mentions mentions atoms) ss → 128 < (b + 1) * 2 ^ length ss
