use Rattle.std.proofs.Common.{◌≡◌, sym, ap, ◌∙◌}
use Rattle.ded_model.specs.Constraint.{LinearConstraint}
use Rattle.ded_elimination.proofs.Stronger.{stronger}
use Rattle.ded_elimination.proofs.keeping.implies.Goals as goal

pub returns-then-same_coefs : goal.returns-then-same_coefs
returns-then-same_coefs c = λ e.
    let first : c.list.result.now ≡ c.args.a.now.coefs = c.list.ensures.value ∙ ap (λ (r : LinearConstraint). r.coefs) c.a.view_is in
    let second : c.list-2.result.now ≡ c.args.b.now.coefs = c.list-2.ensures.value ∙ ap (λ (r : LinearConstraint). r.coefs) c.b.view_is in
    let same : c.args.a.now.coefs ≡ c.args.b.now.coefs = sym first ∙ c.same_coefs.ensures c.if-same_coefs.true ∙ second in
    stronger c.args.a.now c.args.b.now same (sym c.is_at_least.ensures ∙ e)
