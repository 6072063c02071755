-- Conjunctions that lie within others, and lists without such conjunctions.
use Rattle.std.specs.Prelude.{◌≡◌, ◌≤◌, Bool, true, ◌||◌, List, length}
use Rattle.std.specs.List.{AllByRecursion}
use Rattle.ded_model.specs.declared.slot.Slot.{Slot}
use Rattle.ded_model.specs.Point.{Point, IsPoint}
use Rattle.ded_model.specs.Cell.{conj_holds, HoldsSomewhere}
use Rattle.ded_model.specs.Lines.{Line, IsSubset}
use Rattle.ded_genrel.specs.Lists.{conjs_hold, conjs_mention, conjs_lines}
use Rattle.ded_genrel.specs.Operations.{IsOperation}

-- the first conjunction holds only where the second one does
abbrev pub IsWithin : {A : Type 0} → (A → Point → Bool) → List A → List A → Type 0
IsWithin h c d = (p : Point) → IsPoint p → conj_holds h c p ≡ true → conj_holds h d p ≡ true

-- the conjunction holds only where the list does
abbrev pub IsWithinList : {A : Type 0} → (A → Point → Bool) → List A → List (List A) → Type 0
IsWithinList h c ds = (p : Point) → IsPoint p → conj_holds h c p ≡ true → conjs_hold h ds p ≡ true

-- the second list holds where the first one does, mentions only slots that it mentions, and its lines are among its lines
abbrev pub AreAlike : {A : Type 0} → (A → Point → Bool) → (A → Slot → Bool) → (A → List Line) → List (List A) → List (List A) → Type 0
AreAlike h m l cs ds = IsOperation h m l (conjs_hold h cs) (conjs_mention m cs) (conjs_lines l cs) ds

-- each conjunction holds somewhere
abbrev pub AllInhabited : {A : Type 0} → (A → Point → Bool) → List (List A) → Type 0
AllInhabited h cs = AllByRecursion (λ c. HoldsSomewhere (conj_holds h c)) cs

-- the second list is alike and no longer, and each of its conjunctions holds somewhere where each of the first list does
pub record IsCondensed {A : Type 0} (h : A → Point → Bool) (m : A → Slot → Bool) (l : A → List Line) (cs ds : List (List A)) : Type 0 where
  pub alike : AreAlike h m l cs ds
  pub no_more : length ds ≤ length cs
  pub inhabited : AllInhabited h cs → AllInhabited h ds

-- of the first list those are left that hold alike together with the conjunction
pub record AreLeft {A : Type 0} (h : A → Point → Bool) (m : A → Slot → Bool) (l : A → List Line) (c : List A) (cs ds : List (List A)) : Type 0 where
  pub holds : (p : Point) → IsPoint p → (conjs_hold h ds p || conj_holds h c p) ≡ (conjs_hold h cs p || conj_holds h c p)
  pub slots : (s : Slot) → conjs_mention m ds s ≡ true → conjs_mention m cs s ≡ true
  pub lines : IsSubset (conjs_lines l ds) (conjs_lines l cs)
  pub no_more : length ds ≤ length cs
  pub inhabited : AllInhabited h cs → AllInhabited h ds
