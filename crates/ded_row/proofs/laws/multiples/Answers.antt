use Rattle.ded_row.proofs.Forms.{begins, row_lines-times}
use Rattle.ded_row.proofs.laws.multiples.Goals as goal

pub returns : goal.returns
returns c = λ r k h n. row_lines-times k r n (begins r.coefs h)
