-- What is found of rows.
use Rattle.std.specs.Prelude.{◌≡◌, ◌<◌, ◌^◌, true, List}
use Rattle.ded_model.specs.Constraint.{LinearConstraint}
use Rattle.ded_model.specs.Cell.{conj_holds, HoldsSomewhere}
use Rattle.ded_model.specs.Row.{row_holds}
use Rattle.ded_weighing.specs.Weighing.{refutes}
use Rattle.ded_cert.specs.declared.seeking.Sought.{Sought}
use Rattle.ded_cert.specs.declared.seeking.Sought.TheVariants.{Somewhere, Nowhere, Nothing}
use Rattle.ded_cert.specs.Certified.{magnitudes}

-- `Somewhere` is so, and the numbers of `Nowhere` refute the rows and have a small sum
abbrev pub IsSought : List LinearConstraint → Sought → Type 0
IsSought rs Somewhere = HoldsSomewhere (conj_holds row_holds rs)
IsSought rs (Nowhere ms) = (refutes ms rs ≡ true) × (magnitudes ms < 2 ^ 63)
IsSought rs Nothing = Unit {0}
