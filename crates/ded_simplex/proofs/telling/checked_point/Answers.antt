use Rattle.std.proofs.Common.{◌∙◌, sym}
use Rattle.ded_weighing.specs.Columns.{lent}
use Rattle.ded_weighing.proofs.Meetings.{rows_somewhere}
use Rattle.ded_simplex.proofs.telling.checked_point.Goals as goal

pub returns-then-meets : goal.returns-then-meets
returns-then-meets c = rows_somewhere c.args.witness.now.values.items c.args.witness.now.denominator (lent c.args.rows.now) (sym c.meets.ensures ∙ c.if-meets.true)
