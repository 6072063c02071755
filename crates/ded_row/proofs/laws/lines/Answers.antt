use Rattle.ded_row.proofs.Forms.{begins}
use Rattle.ded_row.proofs.MixedLines.{lines_combination, lines_clash_alike}
use Rattle.ded_row.proofs.laws.lines.Goals as goal

pub returns-clause-combination : goal.returns-clause-combination
returns-clause-combination c = λ s q r l m h k i j. lines_combination s q r l m (begins q.coefs h) (begins r.coefs k) i j

pub returns-clause-clash : goal.returns-clause-clash
returns-clause-clash c = λ s q r l m h k n o i j. lines_clash_alike s q r l m (begins q.coefs h) (begins r.coefs k) n o i j
