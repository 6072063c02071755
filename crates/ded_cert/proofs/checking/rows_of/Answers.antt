use Rattle.std.proofs.Common.{◌++◌, ◌≡◌, List, sym, ap, ap₂, ◌∙◌, subst}
use Rattle.std.specs.List.{AllByRecursion}
use Rattle.ded_model.specs.Constraint.{LinearConstraint}
use Rattle.ded_model.specs.Coefs.{AreCoefs}
use Rattle.ded_model.specs.Normal.{IsNormalTuple}
use Rattle.ded_theory.specs.Both.{firsts}
use Rattle.ded_elimination.specs.LinearAtoms.{IsLinearAtom}
use Rattle.ded_weighing.specs.Columns.{lent}
use Rattle.ded_cert.proofs.Parts.{firsts_append, rows_with_coefs, linear_rows}
use Rattle.ded_cert.proofs.checking.rows_of.Goals as goal
use Rattle.ded_cert.proofs.checking.rows_of.Goals.{In_ok-add_rows-2}

rows : (c : In_ok-add_rows-2) → lent c.add_rows-2.new.rows.items ≡ firsts (c.args.first.now ++ c.args.second.now)
rows c =
    c.in_ok-add_rows-2.ensures
    ∙ ap₂ (λ (xs ys : List LinearConstraint). xs ++ ys) (c.in_ok-add_rows.ensures ∙ ap₂ (λ (xs ys : List LinearConstraint). xs ++ ys) (ap lent c.new-rows.ensures.items) (ap firsts (c.deref.ensures.value ∙ c.first.view_is)))
    (ap firsts (c.deref-2.ensures.value ∙ c.second.view_is))
    ∙ sym (firsts_append c.args.first.now c.args.second.now)

pub returns-clause-value : goal.returns-clause-value
returns-clause-value c = rows c

pub returns-clause-coefs : goal.returns-clause-coefs
returns-clause-coefs c =
    subst (AllByRecursion (λ (r : LinearConstraint). AreCoefs r.coefs)) (sym (rows c))
    (rows_with_coefs c.args.first.now c.args.second.now (subst IsNormalTuple c.first.view_is c.first.invariant) (subst IsNormalTuple c.second.view_is c.second.invariant))

pub returns-clause-normal : goal.returns-clause-normal
returns-clause-normal c =
    subst (AllByRecursion IsLinearAtom) (sym (rows c)) (linear_rows c.args.first.now c.args.second.now (subst IsNormalTuple c.first.view_is c.first.invariant) (subst IsNormalTuple c.second.view_is c.second.invariant))

pub returns-clause-tuples : goal.returns-clause-tuples
returns-clause-tuples c = (subst IsNormalTuple c.first.view_is c.first.invariant, subst IsNormalTuple c.second.view_is c.second.invariant)
