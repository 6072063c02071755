-- What there is to be drawn of the first tuples stands there.
use Rattle.std.proofs.Common.{drop}
use Rattle.ded_figures.proofs.Sighting.{Adding}
use Rattle.ded_figures.proofs.sight.add_sights.Given as goal

abbrev pub invariant-loop-tuple : goal.invariant-loop-tuple
invariant-loop-tuple l = Adding l.axes l.heading l.tuples l.fn.sights.items (drop l.tuple-index l.tuples) l.sights.items
