-- Joins of one part after another.
use Rattle.std.specs.Prelude.{◌≡◌, ◌↔◌, ◌⊎◌, ◌<◌, ◌||◌, ℕ, nat_eq, Bool, true, IsTrue, Option, Some, None, List, [], ◌∷◌, ◌++◌, if◌then◌else◌}
use Rattle.std.specs.List.{AllByRecursion}
use Rattle.ded_model.specs.declared.slot.Slot.{Slot}
use Rattle.ded_model.specs.Catalogue.{Catalogue, GivenHolds}
use Rattle.ded_model.specs.Cell.{conj_holds}
use Rattle.ded_model.specs.Lines.{Line, IsSubset}
use Rattle.ded_model.specs.Measure.{stored_measures, plan_lines}
use Rattle.ded_model.specs.PlanForm.{PlanForm, plan_mentions}
use Rattle.ded_model.specs.Point.{slot, Point, IsPoint}
use Rattle.ded_genrel.specs.Lists.{conjs_hold, conjs_mention, conjs_lines}
use Rattle.ded_genrel.specs.Rounds.{AreRational}

-- the join of the parts so far; before the first one it is a conjunction without atoms, which holds everywhere
abbrev pub begun : {A : Type 0} → Option (List (List A)) → List (List A)
begun None = [] ∷ []
begun (Some conjs) = conjs

-- the list holds only where the first one does, and there, inside, exactly where the plan does; it has the slots and lines of both
pub record IsJoinedWith {A : Type 0} (h : A → Point → Bool) (m : A → Slot → Bool) (l : A → List Line) (c : Catalogue) (inside : Point → Bool) (f : PlanForm) (xs out : List (List A)) : Type 0 where
  pub within : (p : Point) → IsPoint p → conjs_hold h out p ≡ true → conjs_hold h xs p ≡ true
  pub holds : (p : Point) → IsPoint p → inside p ≡ true → conjs_hold h xs p ≡ true → IsTrue (conjs_hold h out p) ↔ GivenHolds c f p
  pub slots : (s : Slot) → conjs_mention m out s ≡ true → (conjs_mention m xs s || plan_mentions f (slot s)) ≡ true
  pub lines : IsSubset (conjs_lines l out) (conjs_lines l xs ++ plan_lines (stored_measures c) f)

-- ---- what a step is made with

-- all atoms of the window and all rows across are normal, the slots are rational, and where the window holds the rows do
pub record IsJoinStep {A : Type 0} (normal : A → Type 0) (h : A → Point → Bool) (window : List A) (slots : List Slot) (rows : List A) : Type 0 where
  pub within : AllByRecursion normal window
  pub rational : AreRational slots
  pub across : AllByRecursion normal rows
  pub weaker : (p : Point) → conj_holds h window p ≡ true → conj_holds h rows p ≡ true

-- ---- the order of the parts

-- the place of the part that is joined as the i-th, where the part of a place comes first: that and the first one change places
abbrev pub place_of : ℕ → ℕ → ℕ
place_of front i = if nat_eq i 0 then front else (if nat_eq i front then 0 else i)

-- the place is one of n, or the first
abbrev pub IsPlace : ℕ → ℕ → Type 0
IsPlace n front = (front ≡ 0) ⊎ (front < n)
