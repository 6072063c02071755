use Rattle.ded_model.proofs.Normals.{normal_row-holds}
use Rattle.ded_row.proofs.Forms.{begins, normal_row-normal, row_lines-normal, row_mentions-normal}
use Rattle.ded_row.proofs.laws.normal_rows.Goals as goal

pub returns-clause-alike : goal.returns-clause-alike
returns-clause-alike c = λ r p h. normal_row-holds r p h

pub returns-clause-mentions : goal.returns-clause-mentions
returns-clause-mentions c = λ r s. row_mentions-normal r s

pub returns-clause-lines : goal.returns-clause-lines
returns-clause-lines c = λ r h. row_lines-normal r (begins r.coefs h)

pub returns-clause-normal : goal.returns-clause-normal
returns-clause-normal c = λ r h. normal_row-normal r (begins r.coefs h)
