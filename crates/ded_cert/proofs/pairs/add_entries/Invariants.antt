-- The entries of the tuples before the rest were added.
use Rattle.ded_cert.proofs.PairEntries.{Added}
use Rattle.ded_cert.proofs.pairs.add_entries.Given as goal

abbrev pub invariant-loop-other : goal.invariant-loop-other
invariant-loop-other l = Added (l.number, l.tuple) l.second.entries l.other-iterator l.fn.entries.items l.entries.items
