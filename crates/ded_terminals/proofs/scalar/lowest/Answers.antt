use Rattle.std.proofs.Common.{◌≡◌, ◌<◌, ◌/◌, ℕ, subst, sym, rules}
use Rattle.ded_num.specs.Gcd.{nat_gcd}
use Rattle.ded_terminals.proofs.Denominators.{divided_some}
use Rattle.ded_terminals.proofs.scalar.lowest.Goals as goal

pub returns-clause-positive : goal.returns-clause-positive
returns-clause-positive c =
    let same : c.divided-2.result ≡ c.args.denominator / nat_gcd c.args.numerator c.args.denominator = search rules in
    subst (λ (n : ℕ). 0 < n) (sym same) (divided_some c.args.numerator c.args.denominator c.requires)
