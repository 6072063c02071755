use Rattle.std.proofs.Common.{SFits, rules}
use Rattle.std.specs.Int.{w128}
use Rattle.std.proofs.lemmas.Int.{to_z-of_z}
use Rattle.ded_num.proofs.Fractions.{whole_and_rest_is}
use Rattle.ded_num.proofs.fraction.whole_and_rest.Goals as goal

pub returns-clause-value : goal.returns-clause-value
returns-clause-value c =
    let n : SFits w128 c.args.n = c.ranges.n in
    let d : SFits w128 c.args.d = c.ranges.d in
    let whole : SFits w128 c.div_euclid.result = search rules in
    let rest : SFits w128 c.rem_euclid.result = search rules in
    let of_whole = simp to_z-of_z at c.div_euclid.ensures in
    let of_rest = simp to_z-of_z at c.rem_euclid.ensures.value in
    let of_abs = simp to_z-of_z at c.unsigned_abs.ensures.value in
    simp to_z-of_z (rw (of_whole, of_abs, of_rest) (whole_and_rest_is c.args.n c.args.d c.requires.positive))
