use Rattle.std.proofs.Common.{drop}
use Rattle.ded_weighing.proofs.Meetings.{IsSummedWith}
use Rattle.ded_weighing.proofs.meeting.with_coefs.Given as goal

abbrev pub invariant-loop-coef : goal.invariant-loop-coef
invariant-loop-coef l = IsSummedWith l.values l.before l.coefs l.sum (drop l.coef-index l.coefs)
