use Rattle.std.proofs.lemmas.Result.{IfOk-weaker}
use Rattle.ded_atoms.proofs.RowsRead.{row_stands}
use Rattle.ded_atoms.proofs.rows.LinearOfRows.from_row.Goals as goal

pub returns-clause-stands : goal.returns-clause-stands
returns-clause-stands c = IfOk-weaker c.copy.result _ _ (λ a e. row_stands a c.args.row.now e) c.copy.ensures
