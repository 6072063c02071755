use Rattle.std.proofs.Common.{◌≡◌, SFits, rules}
use Rattle.std.specs.Prelude.{pos, ◌*ℤ◌, ◌<ℤ◌, unsigned_abs}
use Rattle.std.specs.Int.{w128}
use Rattle.std.proofs.lemmas.Int.{to_z-of_z}
use Rattle.ded_num.specs.Gcd.{nat_gcd}
use Rattle.ded_simplex.proofs.Values.{value_of}
use Rattle.ded_simplex.proofs.fraction.checked_fraction.Goals as goal

pub returns : goal.returns
returns c =
    let n : SFits w128 c.args.num = c.ranges.num in
    let d : SFits w128 c.args.den = c.ranges.den in
    let positive : pos 0 <ℤ c.args.den = search rules in
    let lowest : pos (nat_gcd (unsigned_abs c.args.num) (unsigned_abs c.args.den)) ≡ pos 1 = search rules in
    let num : c.args.num *ℤ c.args.by ≡ c.args.number = search rules in
    let den : c.args.den *ℤ c.args.by ≡ c.args.denominator = search rules in
    rw (to_z-of_z w128 c.args.num, to_z-of_z w128 c.args.den) (value_of c.args.number c.args.denominator c.args.num c.args.den c.args.by c.requires.denominator positive lowest num den)
