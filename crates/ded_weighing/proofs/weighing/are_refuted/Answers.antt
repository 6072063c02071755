use Rattle.std.proofs.Common.{◌∙◌, sym}
use Rattle.ded_weighing.specs.Columns.{lent}
use Rattle.ded_weighing.proofs.Shown.{rows_nowhere}
use Rattle.ded_weighing.proofs.weighing.are_refuted.Goals as goal

pub returns-in-Ok : goal.returns-in-Ok
returns-in-Ok c = λ e. rows_nowhere c.args.multipliers.now (lent c.args.rows.now) (sym c.in-Ok.ensures.is ∙ e)
