use Rattle.ded_complement.proofs.Implied.{Shortened}
use Rattle.ded_complement.proofs.shortening.shortened.Given as goal

abbrev pub invariant-loop-atom : goal.invariant-loop-atom
invariant-loop-atom g l = Shortened g.T.Theory.holds g.T.Theory.normal l.last l.yielded l.kept.items
