use Rattle.std.proofs.Common.{◌≡◌, drop}
use Rattle.std.specs.Prelude.{pos}
use Rattle.ded_weighing.specs.Meeting.{number_from}
use Rattle.ded_weighing.proofs.meeting.number_of.Given as goal

abbrev pub invariant-loop-other : goal.invariant-loop-other
invariant-loop-other l = number_from l.number (drop l.other-index l.values) l.slot ≡ number_from (pos 0) l.values l.slot
