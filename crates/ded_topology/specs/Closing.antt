-- Lists of conjunctions without those that hold nowhere, and with strict rows made weak; and tuples of a list of conjunctions.
use Rattle.std.specs.Prelude.{◌≡◌, Bool, true, false, List}
use Rattle.std.specs.List.{AllByRecursion}
use Rattle.ded_model.specs.declared.slot.Slot.{Slot}
use Rattle.ded_model.specs.Lines.{IsSubset, tuples_lines}
use Rattle.ded_model.specs.Near.{weak_tuples, AreSortedTuples, AreInhabited}
use Rattle.ded_model.specs.Normal.{IsNormalTuple}
use Rattle.ded_model.specs.Point.{Point, IsPoint}
use Rattle.ded_model.specs.Row.{Atom, tuples_hold, tuples_mention}
use Rattle.ded_theory.specs.declared.answers.Verdict.{Verdict}
use Rattle.ded_theory.specs.declared.answers.Verdict.TheVariants.{Empty, Inhabited}

-- the verdict that says whether some point satisfies a conjunction
abbrev pub verdict_of : Bool → Verdict
verdict_of true = Inhabited
verdict_of false = Empty

-- some conjunctions of the list are kept, which together hold where the list does and each hold somewhere; `out` is these with
-- their strict rows made weak
pub record IsClosed (conjs out : List (List Atom)) : Type 0 where
  pub kept : List (List Atom)
  pub list : out ≡ weak_tuples kept
  pub holds : (p : Point) → IsPoint p → tuples_hold kept p ≡ tuples_hold conjs p
  pub inhabited : AreInhabited kept
  pub sorted : AreSortedTuples kept
  pub slots : (s : Slot) → tuples_mention kept s ≡ true → tuples_mention conjs s ≡ true
  pub lines : IsSubset (tuples_lines kept) (tuples_lines conjs)

-- normal tuples that hold where the list of conjunctions does, with slots and lines among its own
pub record AreNormalPart (conjs us : List (List Atom)) : Type 0 where
  pub holds : (p : Point) → IsPoint p → tuples_hold us p ≡ tuples_hold conjs p
  pub slots : (s : Slot) → tuples_mention us s ≡ true → tuples_mention conjs s ≡ true
  pub lines : IsSubset (tuples_lines us) (tuples_lines conjs)
  pub normal : AllByRecursion IsNormalTuple us
