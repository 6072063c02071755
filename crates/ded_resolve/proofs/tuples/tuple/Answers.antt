use Rattle.std.proofs.Common.{map, ◌∙◌}
use Rattle.std.proofs.lemmas.Result.{IfOk-weaker}
use Rattle.ded_model.specs.Form.{form, forms}
use Rattle.ded_resolve.proofs.Fitting.{heading_fitting, heading_tuple}
use Rattle.ded_resolve.proofs.Overs.{tuple_over, both}
use Rattle.ded_resolve.proofs.tuples.tuple.Goals as goal

pub gather-requires : goal.gather-requires
gather-requires c = heading_fitting c.args.heading.now (forms c.args.comparisons.now) c.in_ok-scope.scope c.in_ok-scope.ensures c.requires.plain c.requires.bound c.requires.sorted

pub returns-clause-value : goal.returns-clause-value
returns-clause-value c = IfOk-weaker c.gather.result _ _ (λ t e. e ∙ heading_tuple c.args.heading.now (map form c.args.comparisons.now) c.in_ok-scope.scope c.in_ok-scope.ensures) c.gather.ensures.value

pub returns-clause-over : goal.returns-clause-over
returns-clause-over c =
    IfOk-weaker c.gather.result _ _ (λ t e. tuple_over c.args.heading.now (map form c.args.comparisons.now) c.in_ok-scope.scope t c.in_ok-scope.ensures c.requires.bound e.0 e.1)
    (both c.gather.result _ _ c.gather.ensures.value c.gather.ensures.normal)
