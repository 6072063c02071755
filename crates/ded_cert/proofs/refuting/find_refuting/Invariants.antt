use Rattle.std.proofs.Common.{◌≡◌, false, take}
use Rattle.std.specs.List.{AllByRecursion}
use Rattle.ded_cert.specs.Tracing.{is_refuting}
use Rattle.ded_cert.proofs.refuting.find_refuting.Given as goal

abbrev pub invariant-loop-row : goal.invariant-loop-row
invariant-loop-row l = AllByRecursion (λ r. is_refuting l.first r ≡ false) (take l.row-index l.rows)
