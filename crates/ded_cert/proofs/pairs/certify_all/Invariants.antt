-- The entries of the pairs of the tuples before the rest.
use Rattle.ded_cert.proofs.PairEntries.{Entered}
use Rattle.ded_cert.proofs.pairs.certify_all.Given as goal

abbrev pub invariant-loop-number : goal.invariant-loop-number
invariant-loop-number l = Entered l.second.entries l.first.entries l.number-iterator l.entries.items
