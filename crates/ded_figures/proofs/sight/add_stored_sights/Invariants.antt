-- What there is to be drawn of the first tuples stands there.
use Rattle.std.proofs.Common.{drop}
use Rattle.ded_model.specs.Catalogue.{tuples_of}
use Rattle.ded_figures.proofs.Sighting.{Adding}
use Rattle.ded_figures.proofs.sight.add_stored_sights.Given as goal

abbrev pub invariant-loop-numbered : goal.invariant-loop-numbered
invariant-loop-numbered l = Adding l.axes l.heading (tuples_of l.stored) l.fn.sights.items (tuples_of (drop l.numbered-index l.stored)) l.sights.items
