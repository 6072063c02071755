use Rattle.std.proofs.Common.{sym, ap, ◌∙◌}
use Rattle.ded_model.specs.Row.{atom_mentions}
use Rattle.ded_atoms.specs.Reading.{atom_of}
use Rattle.ded_eval.proofs.window.mentions.Goals as goal

pub returns-in-Linear : goal.returns-in-Linear
unfolding atom_mentions
returns-in-Linear c = c.mentions.ensures ∙ sym (ap (λ a. atom_mentions (atom_of a) c.args.slot) c.in-Linear.is)

pub returns-in-Theme : goal.returns-in-Theme
unfolding atom_mentions
returns-in-Theme c = c.mentions-in-Theme.ensures ∙ sym (ap (λ a. atom_mentions (atom_of a) c.args.slot) c.in-Theme.is)
