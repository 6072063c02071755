use Rattle.std.proofs.Common.{◌-◌, sym, subst, arith}
use Rattle.ded_model.specs.Form.{form}
use Rattle.ded_resolve.specs.Tuples.{IsFitting}
use Rattle.ded_resolve.proofs.Fitting.{fitting_at}
use Rattle.ded_resolve.proofs.tuples.gather.Goals as goal

pub add-requires-clause-fitting : goal.add-requires-clause-fitting
add-requires-clause-fitting c =
    subst (λ f. IsFitting c.args.scope.now (form f)) (sym c.index-comparisons-at.is)
    (fitting_at c.args.scope.now c.args.comparisons.now (c.loop-at.at - 1) c.index-comparisons-at.result c.requires (omega (arith, c.loop-at.invariant.place)))
