use Rattle.std.proofs.Common.{sym, ap, ◌∙◌}
use Rattle.std.proofs.lemmas.Result.{IfOk-weaker}
use Rattle.std.proofs.lemmas.Slice.Eq.{bytes_eq-Decides}
use Rattle.ded_model.specs.Point.{slot, text_at}
use Rattle.ded_model.specs.Row.{theme_holds}
use Rattle.ded_eval.proofs.window.ask_theme.Goals as goal

pub returns-in-EqText : goal.returns-in-EqText
unfolding theme_holds
returns-in-EqText c = IfOk-weaker c.ask_text.result _ _ (λ u k inside holds w.
    k inside (λ p i. (bytes_eq-Decides (text_at p (slot c.in-EqText.slot)) c.in-EqText.text).0 (sym (ap (λ a. theme_holds a p) c.in-EqText.is) ∙ holds p i)) w) c.ask_text.ensures
