-- Rows without those that the others imply.
use Rattle.std.specs.Prelude.{◌≡◌, true, List}
use Rattle.ded_model.specs.Constraint.{LinearConstraint}
use Rattle.ded_model.specs.Cell.{conj_holds}
use Rattle.ded_model.specs.Point.{Point, IsPoint}
use Rattle.ded_model.specs.Row.{row_holds}
use Rattle.ded_model.specs.Sublists.{IsSublist}

-- the row holds wherever all of these and all of those do
abbrev pub Imply : List LinearConstraint → List LinearConstraint → LinearConstraint → Type 0
Imply these those r = (p : Point) → IsPoint p → conj_holds row_holds these p ≡ true → conj_holds row_holds those p ≡ true → row_holds r p ≡ true

-- the new rows are the old ones without some of them, and hold at the same points
pub record IsPruned (new old : List LinearConstraint) : Type 0 where
  pub part : IsSublist new old
  pub same : (p : Point) → IsPoint p → conj_holds row_holds new p ≡ conj_holds row_holds old p
