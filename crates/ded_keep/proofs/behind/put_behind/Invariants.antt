use Rattle.ded_keep.specs.Behind.{IsPutBehind}
use Rattle.ded_keep.proofs.behind.put_behind.Given as goal

abbrev pub invariant-loop-tuple : goal.invariant-loop-tuple
invariant-loop-tuple g l = IsPutBehind l.fn.list.items l.yielded l.list.items
