use Rattle.std.proofs.Common.{◌≡◌, ◌^◌, ◌<◌, SFits, ap, ap₂, ◌∙◌, sym}
use Rattle.std.specs.Prelude.{pos, unsigned_abs}
use Rattle.std.specs.Int.{w128}
use Rattle.std.proofs.lemmas.Int.{to_z_pos, to_z-of_z}
use Rattle.ded_num.specs.Gcd.{nat_gcd}
use Rattle.ded_num.proofs.Gcds.{nat_gcd_is}
use Rattle.ded_num.proofs.divisor.gcd.Goals as goal
use Rattle.ded_num.proofs.divisor.gcd.Goals.{After-gcd_of}

-- the magnitudes that are handed to Euclid's steps
of_a : (c : After-gcd_of) → c.unsigned_abs.result ≡ unsigned_abs c.args.a
of_a c = let fits : SFits w128 c.args.a = c.ranges.a in simp to_z-of_z at c.unsigned_abs.ensures.value

of_b : (c : After-gcd_of) → c.unsigned_abs-2.result ≡ unsigned_abs c.args.b
of_b c = let fits : SFits w128 c.args.b = c.ranges.b in simp to_z-of_z at c.unsigned_abs-2.ensures.value

pub returns-clause-value : goal.returns-clause-value
returns-clause-value c =
    let short : c.gcd_of.result < 2 ^ 127 = c.gcd_of.ensures.short in
    to_z_pos w128 c.gcd_of.result short ∙ ap pos (nat_gcd_is _ _ c.gcd_of.result c.gcd_of.ensures.value ∙ ap₂ nat_gcd (of_a c) (of_b c))

pub returns-clause-greatest : goal.returns-clause-greatest
returns-clause-greatest c =
    let short : c.gcd_of.result < 2 ^ 127 = c.gcd_of.ensures.short in
    rw (to_z_pos w128 c.gcd_of.result short, sym (of_a c), sym (of_b c)) c.gcd_of.ensures.value
