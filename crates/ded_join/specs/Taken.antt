-- What is taken of pairs: all of them, or those that aren't found to hold nowhere.
use Rattle.std.specs.Prelude.{◌≡◌, ℕ, Bool, List, ◌++◌}
use Rattle.ded_model.specs.declared.slot.Slot.{Slot}
use Rattle.ded_model.specs.Point.{Point}
use Rattle.ded_model.specs.Lines.{Line}
use Rattle.ded_genrel.specs.Operations.{IsMeet}
use Rattle.ded_join.specs.declared.near.Taken.{Taken}
use Rattle.ded_join.specs.declared.near.Taken.TheVariants.{All, Inhabited}
use Rattle.ded_join.specs.Near.{AreNearPairs}
use Rattle.ded_join.specs.Kept.{AreKept, IsCount}

-- the list is what is taken of the conjunctions, in order
abbrev pub AreTaken : {A : Type 0} → Taken → (A → Point → Bool) → (A → Slot → Bool) → (A → List Line) → List (List A) → List (List A) → Type 0
AreTaken All holds mentions lines cs out = out ≡ cs
AreTaken Inhabited holds mentions lines cs out = AreKept holds mentions lines cs out

-- what is taken of the conjunctions stands at the end
pub record AreTakenAfter {A : Type 0} (taken : Taken) (holds : A → Point → Bool) (mentions : A → Slot → Bool) (lines : A → List Line) (cs old new : List (List A)) : Type 0 where
  pub added : List (List A)
  pub are : AreTaken taken holds mentions lines cs added
  pub list : new ≡ old ++ added

-- the list is what is taken of a meet of the two, of pairs that are near, and the count grows by the length of the meet
pub record IsTakenMeet {A : Type 0} (taken : Taken) (holds : A → Point → Bool) (mentions : A → Slot → Bool) (lines : A → List Line) (ss : List Slot) (xs ys out : List (List A)) (old new : ℕ) : Type 0 where
  pub met : List (List A)
  pub is : IsMeet holds mentions lines xs ys met
  pub near : AreNearPairs holds mentions lines ss xs ys met
  pub are : AreTaken taken holds mentions lines met out
  pub count : IsCount met old new
