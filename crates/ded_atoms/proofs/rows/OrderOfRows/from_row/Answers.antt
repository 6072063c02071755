use Rattle.std.proofs.Common.{◌∙◌}
use Rattle.ded_atoms.proofs.RowsRead.{row_stands}
use Rattle.ded_atoms.proofs.rows.OrderOfRows.from_row.Goals as goal

pub returns-clause-stands : goal.returns-clause-stands
returns-clause-stands c = row_stands c.of.result c.args.row.now (c.of.ensures.value ∙ c.in_ok-copy.ensures)
