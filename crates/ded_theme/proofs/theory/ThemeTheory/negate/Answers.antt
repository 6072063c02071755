use Rattle.std.proofs.Common.{not, cond, ap, sym, ◌∙◌}
use Rattle.std.specs.Prelude.{pos}
use Rattle.ded_model.specs.Row.{theme_holds, theme_mentions}
use Rattle.ded_theme.specs.Laws.{cells-tell}
use Rattle.ded_theme.proofs.Turning.{turned-holds, turned-mentions}
use Rattle.ded_theme.proofs.theory.ThemeTheory.negate.Goals as goal

pub returns-clause-holds : goal.returns-clause-holds
returns-clause-holds c = λ p _. ap (λ a. theme_holds a p) c.in_ok-turned.ensures ∙ turned-holds c.args.atom.now p

pub returns-clause-slots : goal.returns-clause-slots
returns-clause-slots c = λ s m. sym (ap (λ a. theme_mentions a s) c.in_ok-turned.ensures ∙ turned-mentions c.args.atom.now s) ∙ m

pub returns-clause-cells : goal.returns-clause-cells
returns-clause-cells c =
    let a = c.args.atom.now in
    λ p q e.
    ap (λ b. cond b (pos 1) (pos 0))
    (ap (λ b. theme_holds b p) c.in_ok-turned.ensures ∙ turned-holds a p ∙ ap not (cells-tell a p q e)
    ∙ sym (ap (λ b. theme_holds b q) c.in_ok-turned.ensures ∙ turned-holds a q))
