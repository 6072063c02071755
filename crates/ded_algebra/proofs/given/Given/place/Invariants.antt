use Rattle.std.proofs.Common.{◌≡◌, false, take}
use Rattle.ded_algebra.specs.Given.{has_name}
use Rattle.ded_algebra.proofs.given.Given.place.Given as goal

abbrev pub invariant-loop-i : goal.invariant-loop-i
invariant-loop-i l = has_name l.name (take l.i l.self-inside.relations.items) ≡ false
