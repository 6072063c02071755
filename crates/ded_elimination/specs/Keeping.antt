-- Rows that are kept together.
use Rattle.std.specs.Prelude.{◌≡◌, ◌⊎◌, ℕ, ◌<◌, ℤ, int_le, int_lt, Bool, true, false, List, length, get_or}
use Rattle.std.specs.Ordering.{int_eq}
use Rattle.ded_model.specs.declared.row.RowOp.{RowOp}
use Rattle.ded_model.specs.declared.row.RowOp.TheVariants.{Zero, AtMost, Below}
use Rattle.ded_model.specs.Constraint.{LinearConstraint}
use Rattle.ded_model.specs.Point.{Point}
use Rattle.ded_model.specs.Row.{row_holds}
use Rattle.ded_model.specs.Cell.{conj_holds}
use Rattle.ded_model.specs.Lines.{In}
use Rattle.ded_elimination.specs.declared.keeping.Rival.{Rival}
use Rattle.ded_elimination.specs.declared.keeping.Rival.TheVariants.{Nothing, Stronger, Weaker}

-- whether a sum that compares with 0 by the first op, with the constant a, does so by the second op with the constant b
abbrev pub at_least_with : RowOp → ℤ → RowOp → ℤ → Bool
at_least_with Zero a Zero b = int_eq a b
at_least_with Zero a AtMost b = int_le b a
at_least_with Zero a Below b = int_lt b a
at_least_with AtMost a Zero b = false
at_least_with AtMost a AtMost b = int_le b a
at_least_with AtMost a Below b = int_lt b a
at_least_with Below a Zero b = false
at_least_with Below a AtMost b = int_le b a
at_least_with Below a Below b = int_le b a

-- whether the first row implies the second one by their constants and ops, where both have the same coefficients
abbrev pub at_least : LinearConstraint → LinearConstraint → Bool
at_least q r = at_least_with q.op q.constant r.op r.constant

-- the first row holds only where the second one does
abbrev pub Implies : LinearConstraint → LinearConstraint → Type 0
Implies q r = (p : Point) → 0 < p.den → row_holds q p ≡ true → row_holds r p ≡ true

-- the row at the place implies r
abbrev pub ImpliesFrom : List LinearConstraint → ℕ → LinearConstraint → Type 0
ImpliesFrom rows i r = (d : LinearConstraint) → Implies (get_or rows i d) r

-- r implies the row at the place
abbrev pub ImpliesAt : List LinearConstraint → ℕ → LinearConstraint → Type 0
ImpliesAt rows i r = (d : LinearConstraint) → Implies r (get_or rows i d)

-- what stands in the way of r among the rows
abbrev pub IsRival : List LinearConstraint → LinearConstraint → Rival → Type 0
IsRival rows r Nothing = Unit {0}
IsRival rows r Stronger = (i : ℕ) × (i < length rows) × ImpliesFrom rows i r
IsRival rows r (Weaker i) = (i < length rows) × ImpliesAt rows i r

-- the new rows hold only where the old ones and r do, and are some of these; r holds nowhere where nothing more can hold
pub record Keeps (r : LinearConstraint) (old : List LinearConstraint) (more : Bool) (new : List LinearConstraint) : Type 0 where
  pub holds : (p : Point) → 0 < p.den → more ≡ true → conj_holds row_holds new p ≡ true → (conj_holds row_holds old p ≡ true) × (row_holds r p ≡ true)
  pub rows : (x : LinearConstraint) → In x new → In x old ⊎ (x ≡ r)
  pub never : more ≡ false → (p : Point) → 0 < p.den → row_holds r p ≡ false
