-- The halves together.
use Rattle.ded_axes.proofs.Scaling.{halves_quotient, halves_rest, at_most}
use Rattle.std.proofs.Common.{subst, sym, ◌≤◌}
use Rattle.ded_axes.proofs.parts.+scaled.Goals as goal

pub returns-clause-quotient : goal.returns-clause-quotient
returns-clause-quotient t c =
    halves_quotient c.args.part c.args.count c.args.whole c.odd_part.result c.scaled-half.result.0 c.scaled-half.result.1 c.requires.positive c.odd_part.ensures.value
    c.scaled-half.ensures.quotient c.scaled-half.ensures.rest

pub returns-clause-rest : goal.returns-clause-rest
returns-clause-rest t c =
    halves_rest c.args.part c.args.count c.args.whole c.odd_part.result c.scaled-half.result.0 c.scaled-half.result.1 c.requires.positive c.odd_part.ensures.value
    c.scaled-half.ensures.quotient c.scaled-half.ensures.rest

pub returns-clause-short : goal.returns-clause-short
returns-clause-short t c =
    subst (λ q. q ≤ c.args.count)
    (sym (halves_quotient c.args.part c.args.count c.args.whole c.odd_part.result c.scaled-half.result.0 c.scaled-half.result.1 c.requires.positive c.odd_part.ensures.value
    c.scaled-half.ensures.quotient c.scaled-half.ensures.rest))
    (at_most c.args.part c.args.count c.args.whole c.requires.positive c.requires.portion)
