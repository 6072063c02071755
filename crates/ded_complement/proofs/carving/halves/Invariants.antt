use Rattle.std.proofs.Common.{IfSome}
use Rattle.ded_complement.specs.Parts.{AreHalves}
use Rattle.ded_complement.proofs.carving.halves.Given as goal

abbrev pub invariant-loop-column : goal.invariant-loop-column
invariant-loop-column g l = IfSome l.best (λ r. AreHalves g.T.Theory.holds g.T.Theory.mentions g.T.Theory.lines g.T.Theory.cell g.T.Theory.normal l.slots l.taken l.part.piece.conj.items r)
