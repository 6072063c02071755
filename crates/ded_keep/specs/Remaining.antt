-- What is left of kept tuples where a relation loses a tuple.
use Rattle.std.specs.Prelude.{◌≡◌, ◌↔◌, ◌⊎◌, ◌||◌, ◌&&◌, true, false, IsTrue, List, [], ◌∷◌, ◌++◌}
use Rattle.std.specs.List.{AllByRecursion}
use Rattle.ded_model.specs.declared.slot.Slot.{Slot}
use Rattle.ded_model.specs.Catalogue.{Catalogue, GivenHolds}
use Rattle.ded_model.specs.Lines.{IsSubset, atoms_lines, tuples_lines}
use Rattle.ded_model.specs.Measure.{stored_measures, plan_lines}
use Rattle.ded_model.specs.Normal.{IsNormalTuple}
use Rattle.ded_model.specs.PlanForm.{PlanForm, plan_mentions}
use Rattle.ded_model.specs.Point.{slot, Point, IsPoint}
use Rattle.ded_model.specs.Row.{Atom, tuple_holds, tuple_mentions, tuples_hold, tuples_mention}

-- where the tuple holds, none of the list does
abbrev pub IsApart : List Atom → List (List Atom) → Type 0
IsApart t lost = (p : Point) → IsPoint p → tuple_holds t p ≡ true → tuples_hold lost p ≡ false

-- where some of the tuples hold, none of the list does
abbrev pub AreApart : List (List Atom) → List (List Atom) → Type 0
AreApart ts lost = (p : Point) → IsPoint p → tuples_hold ts p ≡ true → tuples_hold lost p ≡ false

-- the kept tuples, parted into those at whose points no lost one holds and the others
pub record IsParted (lost kept far near : List (List Atom)) : Type 0 where
  pub holds : (p : Point) → tuples_hold kept p ≡ (tuples_hold far p || tuples_hold near p)
  pub apart : AreApart far lost
  pub slots : (s : Slot) → (tuples_mention far s || tuples_mention near s) ≡ true → tuples_mention kept s ≡ true
  pub lines : IsSubset (tuples_lines far ++ tuples_lines near) (tuples_lines kept)
  pub normal : AllByRecursion IsNormalTuple kept → AllByRecursion IsNormalTuple far × AllByRecursion IsNormalTuple near

-- the tuples hold where the others do and one tuple besides, mention only what these mention, and have lines among theirs
pub record AreOfBoth (t : List Atom) (us ts : List (List Atom)) : Type 0 where
  pub holds : (p : Point) → IsPoint p → tuples_hold ts p ≡ (tuple_holds t p && tuples_hold us p)
  pub slots : (s : Slot) → tuples_mention ts s ≡ true → (tuple_mentions t s || tuples_mention us s) ≡ true
  pub lines : IsSubset (tuples_lines ts) (atoms_lines t ++ tuples_lines us)
  pub normal : AllByRecursion IsNormalTuple ts

-- the tuples of both get the one with the next of the others
abbrev pub AddsPiece : List Atom → List Atom → List (List Atom) → List (List Atom) → Type 0
AddsPiece t u old new = (us : List (List Atom)) → AreOfBoth t us old → AreOfBoth t (us ++ u ∷ []) new

-- of a kept tuple: what the plan gives within it
pub record IsWithin (e : Catalogue) (f : PlanForm) (t : List Atom) (ts : List (List Atom)) : Type 0 where
  pub holds : (p : Point) → IsPoint p → IsTrue (tuples_hold ts p) ↔ (IsTrue (tuple_holds t p) × GivenHolds e f p)
  pub slots : (s : Slot) → tuples_mention ts s ≡ true → (tuple_mentions t s ≡ true) ⊎ (plan_mentions f (slot s) ≡ true)
  pub lines : IsSubset (tuples_lines ts) (atoms_lines t ++ plan_lines (stored_measures e) f)
  pub normal : IsNormalTuple t → AllByRecursion IsNormalTuple ts

-- of kept tuples: they hold only where these do, and only where the plan does or no lost tuple; where these and the plan hold, they do
pub record AreLeft (e : Catalogue) (f : PlanForm) (lost kept ts : List (List Atom)) : Type 0 where
  pub within : (p : Point) → IsPoint p → tuples_hold ts p ≡ true → tuples_hold kept p ≡ true
  pub right : (p : Point) → IsPoint p → tuples_hold ts p ≡ true → GivenHolds e f p ⊎ (tuples_hold lost p ≡ false)
  pub all : (p : Point) → IsPoint p → tuples_hold kept p ≡ true → GivenHolds e f p → tuples_hold ts p ≡ true
  pub slots : (s : Slot) → tuples_mention ts s ≡ true → (tuples_mention kept s ≡ true) ⊎ (plan_mentions f (slot s) ≡ true)
  pub lines : IsSubset (tuples_lines ts) (tuples_lines kept ++ plan_lines (stored_measures e) f)
  pub normal : AllByRecursion IsNormalTuple kept → AllByRecursion IsNormalTuple ts

-- the tuples of both lists: they hold where one of these does, mention only what these mention, have lines among theirs, and are normal
-- where all of them are
pub record AreJoined (ts us new : List (List Atom)) : Type 0 where
  pub holds : (p : Point) → IsPoint p → tuples_hold new p ≡ (tuples_hold ts p || tuples_hold us p)
  pub slots : (s : Slot) → tuples_mention new s ≡ true → (tuples_mention ts s || tuples_mention us s) ≡ true
  pub lines : IsSubset (tuples_lines new) (tuples_lines ts ++ tuples_lines us)
  pub normal : AllByRecursion IsNormalTuple ts → AllByRecursion IsNormalTuple us → AllByRecursion IsNormalTuple new

-- the list and the pieces are left of kept tuples, and then, with more, of one tuple besides
abbrev pub AddsWithin : Catalogue → PlanForm → List Atom → List (List Atom) → List (List Atom) → List (List Atom) → List (List Atom) → Type 0
AddsWithin e f t list cut list' cut' = (lost done : List (List Atom)) → AreLeft e f lost done (list ++ cut) → AreLeft e f lost (done ++ t ∷ []) (list' ++ cut')

-- the same where what is lost is what the plan gives over other relations: the tuples hold only where the kept ones do, and only where
-- the plan does over what is given after or doesn't over those others; where the kept ones and the plan after hold, they do. They
-- mention only slots that one of these mentions, have lines among those of both, and are normal where the kept ones are
pub record IsRemaining (c e : Catalogue) (f : PlanForm) (kept ts : List (List Atom)) : Type 0 where
  pub within : (p : Point) → IsPoint p → tuples_hold ts p ≡ true → tuples_hold kept p ≡ true
  pub right : (p : Point) → IsPoint p → tuples_hold ts p ≡ true → GivenHolds e f p ⊎ (GivenHolds c f p → ⊥)
  pub all : (p : Point) → IsPoint p → tuples_hold kept p ≡ true → GivenHolds e f p → tuples_hold ts p ≡ true
  pub slots : (s : Slot) → tuples_mention ts s ≡ true → (tuples_mention kept s ≡ true) ⊎ (plan_mentions f (slot s) ≡ true)
  pub lines : IsSubset (tuples_lines ts) (tuples_lines kept ++ plan_lines (stored_measures e) f)
  pub normal : AllByRecursion IsNormalTuple kept → AllByRecursion IsNormalTuple ts
