use Rattle.std.proofs.Common.{ap, ◌∙◌}
use Rattle.std.proofs.lemmas.Result.{on_ok_weaker}
use Rattle.ded_algebra.specs.Given.{has_name}
use Rattle.ded_query.proofs.GivenNames.{has_last}
use Rattle.ded_query.proofs.near.add.Goals as goal

pub returns-clause-is : goal.returns-clause-is
returns-clause-is c =
    on_ok_weaker c.add.result (λ e. ap (has_name c.args.relation.name) e ∙ has_last c.args.given.now c.args.relation) c.add.ensures.ok
