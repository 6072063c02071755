use Rattle.std.proofs.Common.{◌≡◌, ◌++◌, ◌∷◌, [], sym, ap, ◌∙◌, subst}
use Rattle.std.proofs.lemmas.List.{map-append}
use Rattle.std.specs.List.{AllByRecursion}
use Rattle.ded_model.specs.Constraint.{LinearConstraint}
use Rattle.ded_model.specs.Coefs.{AreCoefs}
use Rattle.ded_weighing.specs.Columns.{lent}
use Rattle.ded_linear.proofs.Prunes.{all_coefs}
use Rattle.ded_linear.proofs.implication.lent_with.Goals as goal
use Rattle.ded_linear.proofs.implication.lent_with.Goals.{In_ok-push}

all : (c : In_ok-push) → lent c.push.new.self.items ≡ (c.args.kept.now ++ c.args.behind.now) ++ c.args.row.now ∷ []
all c =
    let first = c.in_ok-lend.ensures ∙ ap (λ xs. lent xs ++ c.args.kept.now) c.in_ok-rows.ensures.items in
    let both = c.in_ok-lend-2.ensures ∙ ap (λ xs. xs ++ c.args.behind.now) first in
    ap lent c.in_ok-push.ensures.items ∙ map-append _ c.lend-2.new.out.items (c.args.row ∷ []) ∙ ap (λ xs. xs ++ c.args.row.now ∷ []) both

pub returns-clause-rows : goal.returns-clause-rows
returns-clause-rows c = all c

pub returns-clause-coefs : goal.returns-clause-coefs
returns-clause-coefs c =
    subst (AllByRecursion (λ (x : LinearConstraint). AreCoefs x.coefs)) (sym (all c))
    (all_coefs c.args.kept.now c.args.behind.now c.args.row.now c.requires.kept c.requires.behind (subst (λ (x : LinearConstraint). AreCoefs x.coefs) c.row.view_is c.list.ensures.coefs))
