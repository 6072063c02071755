use Rattle.std.proofs.Common.{take}
use Rattle.ded_join.specs.Merged.{IsWithin}
use Rattle.ded_join.proofs.merging.lies_within.Given as goal

abbrev pub invariant-loop-atom : goal.invariant-loop-atom
invariant-loop-atom g l = IsWithin g.T.Theory.holds l.conj (take l.atom-index l.other)
