use Rattle.std.proofs.Common.{◌≡◌, drop}
use Rattle.ded_model.specs.LongRows.{coefficient}
use Rattle.ded_syntax.proofs.long.coefficient.Given as goal

abbrev pub invariant-loop-part : goal.invariant-loop-part
invariant-loop-part l = coefficient (drop l.part-index l.part-items) l.name ≡ coefficient l.part-items l.name
