use Rattle.std.proofs.Common.{◌≡◌, drop}
use Rattle.ded_algebra.proofs.Names.{found_in}
use Rattle.ded_algebra.proofs.given.Given.tuples.Given as goal

abbrev pub invariant-loop-relation : goal.invariant-loop-relation
invariant-loop-relation l = found_in l.name (drop l.relation-index l.relation-items) ≡ found_in l.name l.self
