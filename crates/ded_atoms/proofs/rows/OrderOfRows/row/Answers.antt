use Rattle.std.proofs.Common.{sym}
use Rattle.ded_atoms.proofs.RowsRead.{row_stands}
use Rattle.ded_atoms.proofs.rows.OrderOfRows.row.Goals as goal

pub returns : goal.returns
returns c = row_stands c.args.atom.now c.row.result.now (sym c.row.ensures.value)
