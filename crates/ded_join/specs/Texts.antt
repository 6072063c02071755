-- Conjunctions of a list by the texts to which they fix a slot.
use Rattle.std.specs.Prelude.{◌≡◌, ◌⊎◌, ◌<◌, ℕ, Bool, true, List, [], ◌++◌, map, filter, length, nat_eq, slice_index_or}
use Rattle.std.specs.List.{AllByRecursion, Contains}
use Rattle.std.specs.List.Sorted.{IsSortedBy}
use Rattle.std.specs.Ordering.{nat_cmp, is_lt}
use Rattle.std.specs.Cmp.Lexicographic.{slice_cmp}
use Rattle.ded_model.specs.declared.slot.Slot.{Slot}
use Rattle.ded_model.specs.Point.{slot, Point, IsPoint, text_at}
use Rattle.ded_model.specs.Cell.{conj_holds}
use Rattle.ded_complement.specs.Keys.{rank}
use Rattle.ded_join.specs.declared.texts.TextPlace.{TextPlace}
use Rattle.ded_join.specs.declared.texts.Texts.{Texts}

-- where the conjunction holds, the slot has the text
abbrev pub HasText : {A : Type 0} → (A → Point → Bool) → Slot → List A → List ℕ → Type 0
HasText h s c t = (p : Point) → IsPoint p → conj_holds h c p ≡ true → text_at p (slot s) ≡ t

-- it is a place of the list, and where the conjunction there holds, the slot has the text
pub record IsPlaced {A : Type 0} (h : A → Point → Bool) (s : Slot) (cs : List (List A)) (e : TextPlace) : Type 0 where
  pub inside : e.place < length cs
  pub text : HasText h s (slice_index_or cs e.place []) e.text.now

-- texts of one place come before those of the next, or are the same
abbrev pub AreSorted : List TextPlace → Type 0
AreSorted es = IsSortedBy (λ a b. is_lt (slice_cmp nat_cmp a.text.now b.text.now)) es

-- the places with texts are so, the others are places of the list, and each place of it is one of these or of those
pub record AreTexts {A : Type 0} (h : A → Point → Bool) (cs : List (List A)) (k : Texts) : Type 0 where
  pub placed : AllByRecursion (IsPlaced h k.slot cs) k.placed.items
  pub others : AllByRecursion (λ j. j < length cs) k.others.items
  pub all : (j : ℕ) → j < length cs → Contains (map (λ e. e.place) k.placed.items) j ⊎ Contains k.others.items j
  pub sorted : AreSorted k.placed.items

-- the places of the text, and those without one
abbrev pub places_with : List ℕ → Texts → List ℕ
places_with t k = map (λ e. e.place) (filter (λ e. nat_eq (rank e.text.now t) 1) k.placed.items) ++ k.others.items
