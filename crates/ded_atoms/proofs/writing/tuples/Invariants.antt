use Rattle.ded_genrel.specs.Lists.{conjs_of}
use Rattle.ded_atoms.specs.Written.{IsWrittenAs}
use Rattle.ded_atoms.proofs.writing.tuples.Given as goal

abbrev pub invariant-loop-conj : goal.invariant-loop-conj
invariant-loop-conj l = IsWrittenAs (conjs_of l.yielded) l.tuples.items
