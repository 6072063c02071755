-- Lists without conjunctions that hold nowhere inside of a window.
use Rattle.std.specs.Prelude.{◌≡◌, Bool, true, ◌||◌, List, ◌++◌}
use Rattle.ded_model.specs.declared.slot.Slot.{Slot}
use Rattle.ded_model.specs.Point.{Point, IsPoint}
use Rattle.ded_model.specs.Lines.{Line, IsSubset}
use Rattle.ded_genrel.specs.Lists.{conjs_hold, conjs_mention, conjs_lines}

module _ {A : Type 0} (h : A → Point → Bool) (m : A → Slot → Bool) (l : A → List Line) (inside : Point → Bool) where
  -- the list holds only where the first one does, and inside exactly there; it has nothing new
  pub record IsInsidePart (conjs out : List (List A)) : Type 0 where
    pub within : (p : Point) → IsPoint p → conjs_hold h out p ≡ true → conjs_hold h conjs p ≡ true
    pub holds : (p : Point) → IsPoint p → inside p ≡ true → conjs_hold h conjs p ≡ true → conjs_hold h out p ≡ true
    pub slots : (s : Slot) → conjs_mention m out s ≡ true → conjs_mention m conjs s ≡ true
    pub lines : IsSubset (conjs_lines l out) (conjs_lines l conjs)

  -- the list holds only where two do, and inside exactly there; it has the slots and lines of both
  pub record IsMeetInside (xs ys out : List (List A)) : Type 0 where
    pub within : (p : Point) → IsPoint p → conjs_hold h out p ≡ true → (conjs_hold h xs p ≡ true) × (conjs_hold h ys p ≡ true)
    pub holds : (p : Point) → IsPoint p → inside p ≡ true → conjs_hold h xs p ≡ true → conjs_hold h ys p ≡ true → conjs_hold h out p ≡ true
    pub slots : (s : Slot) → conjs_mention m out s ≡ true → (conjs_mention m xs s || conjs_mention m ys s) ≡ true
    pub lines : IsSubset (conjs_lines l out) (conjs_lines l xs ++ conjs_lines l ys)
