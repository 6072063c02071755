use Rattle.ded_row.proofs.Pieces.{whole_minus}
use Rattle.ded_cert.proofs.tracing.turned.Goals as goal

pub divide-requires-clause-whole : goal.divide-requires-clause-whole
divide-requires-clause-whole c = whole_minus c.in_ok-turned.turned
