use Rattle.std.proofs.Common.{rules, SFits}
use Rattle.std.specs.Int.{w128}
use Rattle.std.proofs.lemmas.Int.{to_z-of_z}
use Rattle.ded_ranges.proofs.Ends.{whole_is, whole_short}
use Rattle.ded_ranges.proofs.reach.whole.Goals as goal

pub returns-in-Some-clause-floor : goal.returns-in-Some-clause-floor
returns-in-Some-clause-floor c =
    let n : SFits w128 c.args.num = c.ranges.num in
    let d : SFits w128 c.args.den = c.ranges.den in
    let u : SFits w128 c.in-Some.units = search rules in
    let q : SFits w128 c.div_euclid.result = search rules in
    rw (to_z-of_z w128 c.div_euclid.result q) (whole_is c.in-Some.units c.div_euclid.result c.args.num c.args.den c.short_product.result (simp to_z-of_z at c.short_product.ensures) c.in-Some.is (simp to_z-of_z at c.div_euclid.ensures) c.requires)

pub returns-in-Some-clause-short : goal.returns-in-Some-clause-short
returns-in-Some-clause-short c =
    let n : SFits w128 c.args.num = c.ranges.num in
    whole_short c.in-Some.units c.args.num c.short_product.result (simp to_z-of_z at c.short_product.ensures) c.in-Some.is
