use Rattle.std.proofs.Common.{ap, subst, sym, ◌∙◌}
use Rattle.ded_theme.specs.Sources.{source}
use Rattle.ded_theme.specs.Classes.{rules_of, IsBound}
use Rattle.ded_theme.proofs.Ruling.{bound_by, rules_of-append}
use Rattle.ded_theme.proofs.classes.bind.Goals as goal

pub returns-in_ok-push-clause-bound : goal.returns-in_ok-push-clause-bound
returns-in_ok-push-clause-bound c =
    let old = c.args.rules.now.items in
    let s = c.args.slot in
    let w = source c.args.word in
    subst (λ new. IsBound (rules_of old) new s w) (sym (ap rules_of c.in_ok-push.ensures.items ∙ rules_of-append old (record { slot = s; word = c.args.word }))) (bound_by (rules_of old) s w)
