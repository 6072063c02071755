use Rattle.std.proofs.Common.{◌≡◌, None, replicate}
use Rattle.ded_shared.proofs.shared.none_open.Given as goal

abbrev pub invariant-loop : goal.invariant-loop
invariant-loop l = l.places.items ≡ replicate l.counter None
