use Rattle.ded_readback.proofs.Overs.{row_short}
use Rattle.ded_readback.proofs.over.is_row_over.Goals as goal

pub returns-clause-short : goal.returns-clause-short
returns-clause-short c = row_short c.args.row.now.constant c.args.row.now.coefs c.coefs_of.ensures.short c.coefs_of.ensures.coefs
