-- Conjunctions of a list by the texts to which they fix a slot.
use Rattle.std.specs.Prelude.{◌≡◌, ◌<◌, ℕ, Bool, true, ◌||◌, List, ◌++◌, map, filter, length, nat_eq}
use Rattle.std.specs.List.{AllByRecursion, Contains, list_any}
use Rattle.std.specs.List.Sorted.{IsStrictlyIncreasing, IsSortedBy}
use Rattle.std.specs.Ordering.{nat_cmp, ordering_index, is_lt}
use Rattle.std.specs.Cmp.Lexicographic.{slice_cmp}
use Rattle.ded_model.specs.declared.slot.Slot.{Slot}
use Rattle.ded_model.specs.Point.{slot, Point, text_at}
use Rattle.ded_genrel.specs.Lists.{conjs_hold}
use Rattle.ded_complement.specs.declared.boxed.Boxed.{Boxed}
use Rattle.ded_complement.specs.declared.keys.KeyedPlace.{KeyedPlace}
use Rattle.ded_complement.specs.declared.keys.Keys.{Keys}
use Rattle.ded_complement.specs.Parts.{conj_at, conjs_at, ArePlaces}
use Rattle.ded_complement.specs.Pieces.{all_atoms, IsAmong}

-- how the one text compares with the other by their bytes: 0 where it comes before, 1 where they are equal, 2 where it comes after
abbrev pub rank : List ℕ → List ℕ → ℕ
rank one other = ordering_index (slice_cmp nat_cmp one other)

-- where the atom holds, the slot has the text
abbrev pub IsFixedBy : {A : Type 0} → (A → Point → Bool) → Slot → A → List ℕ → Type 0
IsFixedBy h s a t = (p : Point) → h a p ≡ true → text_at p (slot s) ≡ t

-- the atom is one of the conjunction at the place, and fixes the slot to the text
pub record IsKeyed {A : Type 0} (h : A → Point → Bool) (s : Slot) (bs : List (Boxed A)) (e : KeyedPlace A) : Type 0 where
  pub inside : e.place < length bs
  pub among : IsAmong (all_atoms (conj_at bs e.place)) e.atom.now
  pub fixed : IsFixedBy h s e.atom.now e.text.now

-- the conjunction at one of the keyed places holds
abbrev pub keyed_hold : {A : Type 0} → (A → Point → Bool) → List (Boxed A) → List (KeyedPlace A) → Point → Bool
keyed_hold h bs es p = list_any (λ e. conjs_hold h (conj_at bs e.place) p) es

-- texts of one place come before those of the next, or are the same
abbrev pub AreSorted : {A : Type 0} → List (KeyedPlace A) → Type 0
AreSorted es = IsSortedBy (λ a b. is_lt (slice_cmp nat_cmp a.text.now b.text.now)) es

-- the keyed places are so, the others are places of the list, and where one of the conjunctions holds one at these places does
pub record AreKeys {A : Type 0} (h : A → Point → Bool) (bs : List (Boxed A)) (cs : List (List A)) (k : Keys A) : Type 0 where
  pub keyed : AllByRecursion (IsKeyed h k.slot bs) k.keyed.items
  pub others : ArePlaces bs k.others.items
  pub all : (p : Point) → conjs_hold h cs p ≡ (keyed_hold h bs k.keyed.items p || conjs_hold h (conjs_at bs k.others.items) p)
  pub sorted : AreSorted k.keyed.items

-- the places of the text, and those without one
abbrev pub places_with : {A : Type 0} → List ℕ → Keys A → List ℕ
places_with t k = map (λ e. e.place) (filter (λ e. nat_eq (rank e.text.now t) 1) k.keyed.items) ++ k.others.items

-- the places, in order, each once
pub record AreInOrder (is js : List ℕ) : Type 0 where
  pub ascending : IsStrictlyIncreasing js
  pub given : (i : ℕ) → Contains is i → Contains js i
  pub taken : (i : ℕ) → Contains js i → Contains is i
