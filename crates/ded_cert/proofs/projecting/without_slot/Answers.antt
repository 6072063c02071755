use Rattle.ded_cert.proofs.Projections.{never_holds}
use Rattle.ded_cert.proofs.projecting.without_slot.Goals as goal

pub returns-in-Conj-clause-step : goal.returns-in-Conj-clause-step
returns-in-Conj-clause-step c = record {
  holds = rw c.in-Conj.is at c.in_ok-left.ensures.holds;
  slots = rw c.in-Conj.is at c.in_ok-left.ensures.slots;
  lines = rw c.in-Conj.is at c.in_ok-left.ensures.lines;
}

pub returns-in-Never-clause-wide : goal.returns-in-Never-clause-wide
returns-in-Never-clause-wide c = λ e. absurd (never_holds c.args.slot c.args.rows.now c.requires.rational c.requires.somewhere (rw c.in-Never.is at c.in_ok-left.ensures.holds))
