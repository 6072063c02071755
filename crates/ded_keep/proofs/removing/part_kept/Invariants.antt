use Rattle.ded_keep.specs.Remaining.{IsParted}
use Rattle.ded_keep.proofs.removing.part_kept.Given as goal

abbrev pub invariant-loop-tuple : goal.invariant-loop-tuple
invariant-loop-tuple g l = IsParted l.lost l.yielded l.apart.items l.near.items
