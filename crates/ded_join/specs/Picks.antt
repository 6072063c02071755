-- Indexes over the boxes around conjunctions, and the pairs that they pick.
use Rattle.std.specs.Prelude.{◌≡◌, ◌<◌, ◌^◌, ℕ, Bool, Option, None, Some, List, [], ◌∷◌, ◌++◌, length, slice_index_or}
use Rattle.std.specs.List.{AllByRecursion}
use Rattle.ded_model.specs.declared.slot.Slot.{Slot}
use Rattle.ded_model.specs.Point.{Point}
use Rattle.ded_model.specs.Lines.{Line}
use Rattle.ded_genrel.specs.Rounds.{IsRound, IsBoxOf}
use Rattle.ded_index.specs.declared.entry.BoxEntry.{BoxEntry}
use Rattle.ded_index.specs.Entries.{Box, SomeEntry}

-- such a box of each conjunction, in order
abbrev pub AreBoxesOf : {A : Type 0} → (A → Point → Bool) → (A → Slot → Bool) → (A → List Line) → List Slot → List (List A) → List Box → Type 0
AreBoxesOf holds mentions lines ss [] [] = Unit {0}
AreBoxesOf holds mentions lines ss [] (x ∷ xs) = ⊥
AreBoxesOf holds mentions lines ss (c ∷ cs) [] = ⊥
AreBoxesOf holds mentions lines ss (c ∷ cs) (x ∷ xs) = IsBoxOf holds mentions lines ss c x × AreBoxesOf holds mentions lines ss cs xs

-- the entries are such boxes of the conjunctions, under their places
pub record IsIndexOf {A : Type 0} (holds : A → Point → Bool) (mentions : A → Slot → Bool) (lines : A → List Line) (ss : List Slot) (cs : List (List A)) (es : List BoxEntry) : Type 0 where
  pub each : (j : ℕ) → j < length cs → SomeEntry (λ e. (e.id ≡ j) × IsRound holds ss (slice_index_or cs j []) e.bounds) es
  pub own : AllByRecursion (λ e. (e.id < length cs) × IsBoxOf holds mentions lines ss (slice_index_or cs e.id []) e.bounds) es

-- such an index, where slots are given and the list has fewer conjunctions than an index has numbers for; none where it isn't so
abbrev pub IsIndexOver : {A : Type 0} → (A → Point → Bool) → (A → Slot → Bool) → (A → List Line) → List Slot → List (List A) → Option (List BoxEntry) → Type 0
IsIndexOver holds mentions lines ss cs None = 0 < length ss → length cs < 2 ^ 32 → ⊥
IsIndexOver holds mentions lines ss cs (Some es) = (0 < length ss) × (length cs < 2 ^ 32) × IsIndexOf holds mentions lines ss cs es

-- the conjunction with those at the places, in order
abbrev pub picked : {A : Type 0} → List A → List (List A) → List ℕ → List (List A)
picked c cs [] = []
picked c cs (j ∷ js) = (c ++ slice_index_or cs j []) ∷ picked c cs js
