use Rattle.std.proofs.Common.{take}
use Rattle.ded_packed.specs.Lent.{lent}
use Rattle.ded_atoms.specs.Reading.{IsListOf}
use Rattle.ded_atoms.proofs.reading.conjunctions.Given as goal

abbrev pub invariant-loop-tuple : goal.invariant-loop-tuple
invariant-loop-tuple g l = IsListOf g.T.Theory.holds g.T.Theory.mentions g.T.Theory.lines l.list (lent (take l.tuple-index l.tuples))
