-- Pairs of conjunctions that are near, and where all pairs are taken.
use Rattle.std.specs.Prelude.{◌≡◌, ◌⊎◌, ◌<◌, ◌≤◌, ◌^◌, ℕ, Bool, true, List, [], ◌∷◌, ◌++◌, length, slice_index_or}
use Rattle.std.specs.List.{AllByRecursion}
use Rattle.std.specs.List.Sorted.{IsStrictlyIncreasing}
use Rattle.ded_model.specs.declared.slot.Slot.{Slot}
use Rattle.ded_model.specs.declared.bound.Bound.{Bound}
use Rattle.ded_model.specs.Point.{Point}
use Rattle.ded_model.specs.Cell.{conj_holds, HoldsSomewhere}
use Rattle.ded_model.specs.Bound.{Fraction}
use Rattle.ded_model.specs.Lines.{Line}
use Rattle.ded_theory.specs.Conjunctions.{IsWide}
use Rattle.ded_box.specs.Intervals.{IsPositive, is_within}
use Rattle.ded_genrel.specs.Lists.{pairs}
use Rattle.ded_genrel.specs.Rounds.{AreExact}
use Rattle.ded_join.specs.Picks.{picked}

-- the exact bounds, at the slot, of what passes one test and of what passes another share a value
pub record BoundsMeet (one other : Point → Bool) (s : Slot) : Type 0 where
  pub first : Bound × Bound
  pub second : Bound × Bound
  pub first_exact : AreExact one s first
  pub second_exact : AreExact other s second
  pub value : Fraction
  pub positive : IsPositive value
  pub in_first : is_within first value ≡ true
  pub in_second : is_within second value ≡ true

-- both hold somewhere, and at each slot their exact bounds share a value
pub record AreNear {A : Type 0} (holds : A → Point → Bool) (ss : List Slot) (c d : List A) : Type 0 where
  pub first : HoldsSomewhere (conj_holds holds c)
  pub second : HoldsSomewhere (conj_holds holds d)
  pub bounds : AllByRecursion (BoundsMeet (conj_holds holds c) (conj_holds holds d)) ss

-- the conjunction with those at ascending places of a list, each of which is near where neither of the two is wide
pub record ArePicked {A : Type 0} (holds : A → Point → Bool) (mentions : A → Slot → Bool) (lines : A → List Line) (ss : List Slot) (c : List A) (cs out : List (List A)) : Type 0 where
  pub places : List ℕ
  pub ascending : IsStrictlyIncreasing places
  pub inside : AllByRecursion (λ j. j < length cs) places
  pub near : AllByRecursion (λ j. (IsWide mentions lines c → ⊥) → (IsWide mentions lines (slice_index_or cs j []) → ⊥) → AreNear holds ss c (slice_index_or cs j [])) places
  pub list : out ≡ picked c cs places

-- the same of each conjunction of a list, one after another: one conjunction for each of some of the pairs
abbrev pub AreNearPairs : {A : Type 0} → (A → Point → Bool) → (A → Slot → Bool) → (A → List Line) → List Slot → List (List A) → List (List A) → List (List A) → Type 0
AreNearPairs holds mentions lines ss [] cs out = out ≡ []
AreNearPairs holds mentions lines ss (b ∷ bs) cs out =
    (front : List (List _)) × (rest : List (List _)) × (out ≡ front ++ rest) × ArePicked holds mentions lines ss b cs front × AreNearPairs holds mentions lines ss bs cs rest

-- where no slots are given, or the second list has more conjunctions than an index has numbers for: the list is that of all pairs
abbrev pub AreAllPairs : {A : Type 0} → List Slot → List (List A) → List (List A) → List (List A) → Type 0
AreAllPairs ss xs ys out = (length ss ≡ 0) ⊎ (2 ^ 32 ≤ length ys) → out ≡ pairs xs ys
