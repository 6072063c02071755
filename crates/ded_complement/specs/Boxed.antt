-- Conjunctions in boxes.
use Rattle.std.specs.Prelude.{Bool, List, [], ◌∷◌}
use Rattle.std.specs.List.{AllByRecursion}
use Rattle.ded_model.specs.declared.slot.Slot.{Slot}
use Rattle.ded_model.specs.Point.{Point}
use Rattle.ded_genrel.specs.Rounds.{IsRound}
use Rattle.ded_complement.specs.declared.boxed.Boxed.{Boxed}

-- the conjunctions
abbrev pub conjs_in : {A : Type 0} → List (Boxed A) → List (List A)
conjs_in [] = []
conjs_in (b ∷ bs) = b.conj.items ∷ conjs_in bs

-- the conjunction is normal, and the values of its points at the slots lie in the box
pub record IsBoxed {A : Type 0} (h : A → Point → Bool) (n : A → Type 0) (ss : List Slot) (b : Boxed A) : Type 0 where
  pub normal : AllByRecursion n b.conj.items
  pub round : IsRound h ss b.conj.items b.bounds

-- the same of each
abbrev pub AreBoxed : {A : Type 0} → (A → Point → Bool) → (A → Type 0) → List Slot → List (Boxed A) → Type 0
AreBoxed holds normal ss bs = AllByRecursion (IsBoxed holds normal ss) bs
