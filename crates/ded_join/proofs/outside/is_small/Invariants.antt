use Rattle.std.proofs.Common.{◌≡◌, ◌-◌, ◌^◌, min, length, take}
use Rattle.ded_genrel.specs.Lists.{conjs_of}
use Rattle.ded_complement.specs.Pieces.{all_atoms}
use Rattle.ded_join.proofs.outside.is_small.Given as goal

abbrev pub invariant-loop-conj : goal.invariant-loop-conj
invariant-loop-conj g l = l.atoms ≡ min (length (all_atoms (conjs_of (take l.conj-index l.conj-items)))) (2 ^ 64 - 1)
