use Rattle.std.proofs.Common.{refl}
use Rattle.ded_atoms.proofs.RowsRead.{row_stands}
use Rattle.ded_atoms.proofs.rows.LinearOfRows.row.Goals as goal

pub returns : goal.returns
returns c = row_stands c.args.atom.now c.args.atom.now refl
