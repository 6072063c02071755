use Rattle.std.proofs.Common.{sym, ap, ◌∙◌}
use Rattle.std.proofs.lemmas.Result.{IfOk-weaker}
use Rattle.ded_model.specs.Row.{atom_holds}
use Rattle.ded_atoms.specs.Reading.{atom_of}
use Rattle.ded_eval.proofs.window.ask.Goals as goal

pub returns-in-Linear : goal.returns-in-Linear
unfolding atom_holds
returns-in-Linear c = IfOk-weaker c.ask_row.result _ _ (λ u k inside holds w. k inside (λ p i. sym (ap (λ a. atom_holds (atom_of a) p) c.in-Linear.is) ∙ holds p i) w) c.ask_row.ensures

pub returns-in-Theme : goal.returns-in-Theme
unfolding atom_holds
returns-in-Theme c = IfOk-weaker c.ask_theme.result _ _ (λ u k inside holds w. k inside (λ p i. sym (ap (λ a. atom_holds (atom_of a) p) c.in-Theme.is) ∙ holds p i) w) c.ask_theme.ensures
