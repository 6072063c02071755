use Rattle.std.proofs.Common.{◌≡◌, true, not, sym, ap, ◌∙◌, subst}
use Rattle.ded_model.specs.Row.{theme_holds}
use Rattle.ded_theme.proofs.Unlike.{unlike}
use Rattle.ded_theme.proofs.implying.implies.Goals as goal

pub returns-then-is_same-2 : goal.returns-then-is_same-2
returns-then-is_same-2 c = λ e p h.
    subst (λ a. theme_holds a p ≡ true) (sym c.in-EqText-NeText.is-1)
    (unlike c.in-EqText-NeText.slot c.in-EqText-NeText.there c.in-EqText-NeText.text c.in-EqText-NeText.unlike (sym c.is_same-in-EqText-NeText.ensures ∙ c.if-is_same-2.true)
    (ap not (sym c.is_same-then-is_same-2.ensures) ∙ e) p (subst (λ a. theme_holds a p ≡ true) c.in-EqText-NeText.is-0 h))
