-- The text is put, and then finished.
use Rattle.std.proofs.Common.{ap}
use Rattle.ded_model.specs.Quoting.{quoted}
use Rattle.ded_print.proofs.Gathering.{prints, adds_as}
use Rattle.ded_print.proofs.part.print_quoted.Goals as goal

pub returns-clause-bytes : goal.returns-clause-bytes
returns-clause-bytes g c =
    adds_as _ _ _ _ _ (ap quoted c.name_bytes.ensures)
    (prints _ _ _ _ _ _ _ _ _ c.new-gathered.ensures.pending c.new-gathered.ensures.sent c.put_quoted.ensures c.finish.ensures).0

pub returns-clause-cause : goal.returns-clause-cause
returns-clause-cause g c = (prints _ _ _ _ _ _ _ _ _ c.new-gathered.ensures.pending c.new-gathered.ensures.sent c.put_quoted.ensures c.finish.ensures).1
