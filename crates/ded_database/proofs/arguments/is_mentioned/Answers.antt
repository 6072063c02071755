use Rattle.std.proofs.Common.{sym, ap, ◌∙◌}
use Rattle.ded_model.specs.Point.{slot}
use Rattle.ded_database.specs.Lost.{lines_mention, binds_one}
use Rattle.ded_database.proofs.arguments.is_mentioned.Goals as goal

pub returns-in-Rat : goal.returns-in-Rat
returns-in-Rat c = c.mention.ensures ∙ ap (λ k. binds_one (lines_mention c.args.lines.now) k (slot c.args.bound)) (sym c.in-Rat.is)
