use Rattle.std.proofs.Common.{◌≡◌, arith, rules}
use Rattle.ded_terminals.specs.Literals.{capped, lcm}
use Rattle.ded_terminals.proofs.Denominators.{lcm_least}
use Rattle.ded_terminals.proofs.operand.lcm.Goals as goal

pub returns-clause-positive : goal.returns-clause-positive
returns-clause-positive c =
    let same : c.min.result ≡ capped (lcm c.args.a c.args.b) = search rules in
    omega (arith, same, lcm_least c.args.a c.args.b c.requires.positive_b, c.requires.positive_a)
