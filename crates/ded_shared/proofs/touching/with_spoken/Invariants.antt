use Rattle.std.proofs.Common.{drop}
use Rattle.ded_shared.proofs.CommandNames.{AreUnderWay}
use Rattle.ded_shared.proofs.touching.with_spoken.Given as goal

abbrev pub invariant-loop-formula : goal.invariant-loop-formula
invariant-loop-formula l = AreUnderWay l.formulas (drop l.formula-index l.formulas) l.fn.names.items l.names.items
