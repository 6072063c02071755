use Rattle.std.proofs.Common.{◌≡◌, take}
use Rattle.std.specs.Prelude.{map}
use Rattle.ded_complement.proofs.keys.Keys.places.Given as goal

abbrev pub invariant-loop-keyed : goal.invariant-loop-keyed
invariant-loop-keyed g l = l.places.items ≡ map (λ e. e.place) (take l.keyed-index l.keyed-items)
