use Rattle.std.proofs.Common.{◌++◌, ◌≡◌, List, sym, ap, ap₂, ◌∙◌, subst}
use Rattle.std.specs.List.{AllByRecursion}
use Rattle.ded_model.specs.declared.tuple.ThemeAtom.{ThemeAtom}
use Rattle.ded_model.specs.Normal.{IsNormalTheme, IsNormalTuple}
use Rattle.ded_theory.specs.Both.{seconds}
use Rattle.ded_cert.proofs.Parts.{seconds_append, normal_texts}
use Rattle.ded_cert.proofs.checking.texts_of.Goals as goal
use Rattle.ded_cert.proofs.checking.texts_of.Goals.{In_ok-add_texts-2}

texts : (c : In_ok-add_texts-2) → c.add_texts-2.new.texts.items ≡ seconds (c.args.first.now ++ c.args.second.now)
texts c =
    c.in_ok-add_texts-2.ensures
    ∙ ap₂ (λ (xs ys : List ThemeAtom). xs ++ ys) (c.in_ok-add_texts.ensures ∙ ap₂ (λ (xs ys : List ThemeAtom). xs ++ ys) c.new-texts.ensures.items (ap seconds (c.deref.ensures.value ∙ c.first.view_is)))
    (ap seconds (c.deref-2.ensures.value ∙ c.second.view_is))
    ∙ sym (seconds_append c.args.first.now c.args.second.now)

pub returns-clause-value : goal.returns-clause-value
returns-clause-value c = texts c

pub returns-clause-normal : goal.returns-clause-normal
returns-clause-normal c =
    subst (AllByRecursion IsNormalTheme) (sym (texts c)) (normal_texts c.args.first.now c.args.second.now (subst IsNormalTuple c.first.view_is c.first.invariant) (subst IsNormalTuple c.second.view_is c.second.invariant))
