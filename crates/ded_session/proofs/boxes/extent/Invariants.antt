use Rattle.ded_session.proofs.Bounding.{Bounded}
use Rattle.ded_session.proofs.boxes.extent.Given as goal

abbrev pub invariant-loop-packed : goal.invariant-loop-packed
invariant-loop-packed l = Bounded l.heading l.stored.entries l.packed-iterator l.extent
