use Rattle.std.proofs.Common.{arith, SFits}
use Rattle.std.specs.Int.{w128}
use Rattle.std.proofs.lemmas.Int.{to_z-of_z}
use Rattle.ded_num.proofs.Lengths.{length_of_is, length_of_zero}
use Rattle.ded_num.proofs.length.bits.Goals as goal

pub returns-then-magnitude-eq0 : goal.returns-then-magnitude-eq0
returns-then-magnitude-eq0 c =
    let fits : SFits w128 c.args.a = c.ranges.a in
    let value = simp to_z-of_z at c.unsigned_abs-magnitude.ensures.value in
    length_of_zero c.args.a (omega arith)

pub returns-else-magnitude-eq0 : goal.returns-else-magnitude-eq0
returns-else-magnitude-eq0 c =
    let fits : SFits w128 c.args.a = c.ranges.a in
    let value = simp to_z-of_z at c.unsigned_abs-magnitude.ensures.value in
    length_of_is c.args.a c.ilog2.result (omega (arith, c.ilog2.ensures.power_le)) (omega (arith, c.ilog2.ensures.next_power_gt))
