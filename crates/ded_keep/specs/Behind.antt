-- Tuples put behind a list, without those that are covered.
use Rattle.std.specs.Prelude.{◌≡◌, ◌||◌, true, List, ◌++◌}
use Rattle.std.specs.List.{AllByRecursion}
use Rattle.ded_model.specs.declared.slot.Slot.{Slot}
use Rattle.ded_model.specs.Lines.{IsSubset, tuples_lines}
use Rattle.ded_model.specs.Normal.{IsNormalTuple}
use Rattle.ded_model.specs.Point.{Point, IsPoint}
use Rattle.ded_model.specs.Row.{Atom, tuple_holds, tuples_hold, tuples_mention}

-- where the tuple holds, the other one does
abbrev pub IsPartOf : List Atom → List Atom → Type 0
IsPartOf t u = (p : Point) → IsPoint p → tuple_holds t p ≡ true → tuple_holds u p ≡ true

-- where the tuple holds, one of the list does
abbrev pub IsCovered : List Atom → List (List Atom) → Type 0
IsCovered t ts = (p : Point) → IsPoint p → tuple_holds t p ≡ true → tuples_hold ts p ≡ true

-- the list, and behind it a rest of the others: they hold where one of the two lists does, and the rest has nothing new
pub record IsPutBehind (list more ts : List (List Atom)) : Type 0 where
  pub rest : List (List Atom)
  pub is : ts ≡ list ++ rest
  pub holds : (p : Point) → IsPoint p → tuples_hold ts p ≡ (tuples_hold list p || tuples_hold more p)
  pub slots : (s : Slot) → tuples_mention rest s ≡ true → tuples_mention more s ≡ true
  pub lines : IsSubset (tuples_lines rest) (tuples_lines more)
  pub normal : AllByRecursion IsNormalTuple more → AllByRecursion IsNormalTuple rest
