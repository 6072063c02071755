-- The line is put, and then finished.
use Rattle.ded_print.proofs.Gathering.{prints}
use Rattle.ded_print.proofs.line.print_meeting.Goals as goal

pub returns-clause-bytes : goal.returns-clause-bytes
returns-clause-bytes g c = (prints _ _ _ _ _ _ _ _ _ c.new-gathered.ensures.pending c.new-gathered.ensures.sent c.put_meeting_line.ensures c.finish.ensures).0

pub returns-clause-cause : goal.returns-clause-cause
returns-clause-cause g c = (prints _ _ _ _ _ _ _ _ _ c.new-gathered.ensures.pending c.new-gathered.ensures.sent c.put_meeting_line.ensures c.finish.ensures).1
