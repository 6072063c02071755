-- What is kept of a list of tuples.
use Rattle.std.specs.Prelude.{◌≡◌, ◌⊎◌, Option, None, Some, List, [], ◌∷◌}
use Rattle.std.specs.List.{AllByRecursion}
use Rattle.ded_model.specs.Cell.{IsReduced, HoldsNowhere}
use Rattle.ded_model.specs.Point.{Point, IsPoint}
use Rattle.ded_model.specs.Row.{Atom, atom_holds, tuple_holds, tuples_hold}
use Rattle.ded_model.specs.Normal.{IsNormalTuple}
use Rattle.ded_model.specs.Width.{IsNarrowList}
use Rattle.ded_model.specs.Sublists.{IsSublist}
use Rattle.ded_atoms.specs.Orders.{AreOrderAtoms}

-- the first tuples are parts of some of the second ones, in the same order
abbrev pub ArePartsOf : List (List Atom) → List (List Atom) → Type 0
ArePartsOf ts [] = ts ≡ []
ArePartsOf ts (u ∷ us) = ArePartsOf ts us ⊎ ((t : List Atom) × (rest : List (List Atom)) × (ts ≡ t ∷ rest) × IsSublist t u × ArePartsOf rest us)

-- where the tuple is narrow, it holds somewhere and each of its atoms is needed
abbrev pub IsReducedTuple : List Atom → Type 0
IsReducedTuple t = IsNarrowList t → IsReduced atom_holds t

-- where its rows are all order rows, it does so whatever its numbers
abbrev pub IsReducedOrder : List Atom → Type 0
IsReducedOrder t = AreOrderAtoms t → IsReduced atom_holds t

-- the tuple holds where the other one does, and is a part of it, where it is narrow without superfluous atoms; none where that
-- holds nowhere
abbrev pub IsSiftedPart : List Atom → Option (List Atom) → Type 0
IsSiftedPart u None = HoldsNowhere (tuple_holds u)
IsSiftedPart u (Some t) = ((p : Point) → IsPoint p → tuple_holds t p ≡ tuple_holds u p) × IsSublist t u × IsNormalTuple t × IsReducedTuple t

-- and it is so of order rows of any length too
abbrev pub IsReducedPart : List Atom → Option (List Atom) → Type 0
IsReducedPart u None = HoldsNowhere (tuple_holds u)
IsReducedPart u (Some t) = ((p : Point) → IsPoint p → tuple_holds t p ≡ tuple_holds u p) × IsSublist t u × IsNormalTuple t × IsReducedTuple t × IsReducedOrder t

-- the tuples hold where the other ones do, and are parts of them without superfluous atoms, in the same order
pub record AreReducedParts (ts us : List (List Atom)) : Type 0 where
  pub holds : (p : Point) → IsPoint p → tuples_hold ts p ≡ tuples_hold us p
  pub parts : ArePartsOf ts us
  pub normal : AllByRecursion IsNormalTuple ts
  pub reduced : AllByRecursion IsReducedTuple ts
  pub orders : AllByRecursion IsReducedOrder ts
