-- What is left of pairs of conjunctions without those that no point satisfies.
use Rattle.std.specs.Prelude.{◌≡◌, ◌⊎◌, ◌+◌, ◌-◌, ◌<◌, ◌≤◌, ◌^◌, ℕ, Bool, List, [], ◌∷◌, ◌++◌, min, length}
use Rattle.ded_model.specs.declared.slot.Slot.{Slot}
use Rattle.ded_model.specs.Point.{Point}
use Rattle.ded_model.specs.Cell.{conj_holds, HoldsSomewhere, HoldsNowhere}
use Rattle.ded_model.specs.Lines.{Line}
use Rattle.ded_theory.specs.Conjunctions.{IsWide}
use Rattle.ded_genrel.specs.Operations.{IsMeet}
use Rattle.ded_complement.specs.Pieces.{all_atoms}
use Rattle.ded_join.specs.Near.{AreNearPairs, AreAllPairs}
use Rattle.ded_join.specs.Merged.{AllInhabited}

-- the list without conjunctions that no point satisfies, in order: each that is kept is wide or holds somewhere
abbrev pub AreKept : {A : Type 0} → (A → Point → Bool) → (A → Slot → Bool) → (A → List Line) → List (List A) → List (List A) → Type 0
AreKept holds mentions lines [] out = out ≡ []
AreKept holds mentions lines (c ∷ cs) out =
    (HoldsNowhere (conj_holds holds c) × AreKept holds mentions lines cs out)
    ⊎ ((rest : List (List _)) × (out ≡ c ∷ rest) × ((IsWide mentions lines c → ⊥) → HoldsSomewhere (conj_holds holds c)) × AreKept holds mentions lines cs rest)

-- the first number grows by the count of conjunctions to the second, up to the greatest of 64 bits
abbrev pub IsCount : {A : Type 0} → List (List A) → ℕ → ℕ → Type 0
IsCount cs old new = new ≡ min (old + length cs) (2 ^ 64 - 1)

-- the list is what is kept of a meet of the two, of pairs that are near where slots are given and of all pairs where none are,
-- and the count grows by the length of the meet
pub record IsKeptMeet {A : Type 0} (holds : A → Point → Bool) (mentions : A → Slot → Bool) (lines : A → List Line) (ss : List Slot) (xs ys out : List (List A)) (old new : ℕ) : Type 0 where
  pub met : List (List A)
  pub is : IsMeet holds mentions lines xs ys met
  pub near : 0 < length ss → length ys < 2 ^ 32 → AreNearPairs holds mentions lines ss xs ys met
  pub whole : AreAllPairs ss xs ys met
  pub kept : AreKept holds mentions lines met out
  pub count : IsCount met old new

-- the list is no longer than the pairs that are so kept and counted, and these pairs themselves where the second list has more than 32
-- atoms or there are no more pairs than one of the two lists has; where the atoms of both lists together aren't wide, each conjunction
-- of it holds somewhere
pub record IsShorter {A : Type 0} (holds : A → Point → Bool) (mentions : A → Slot → Bool) (lines : A → List Line) (ss : List Slot) (xs ys out : List (List A)) (old new : ℕ) : Type 0 where
  pub pairs : List (List A)
  pub kept : IsKeptMeet holds mentions lines ss xs ys pairs old new
  pub large : 32 < length (all_atoms ys) → out ≡ pairs
  pub short : (length pairs ≤ length xs) ⊎ (length pairs ≤ length ys) → out ≡ pairs
  pub no_more : length out ≤ length pairs
  pub inhabited : (IsWide mentions lines (all_atoms xs ++ all_atoms ys) → ⊥) → AllInhabited holds out
