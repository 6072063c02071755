use Rattle.std.proofs.Common.{take}
use Rattle.ded_complement.proofs.Cutting.{Cutting}
use Rattle.ded_complement.proofs.pieces.push_outside.Given as goal

abbrev pub invariant-loop-atom : goal.invariant-loop-atom
invariant-loop-atom g l = Cutting g.T.Theory.holds g.T.Theory.mentions g.T.Theory.lines g.T.Theory.cell g.T.Theory.normal l.fn.piece.items (take l.atom-index l.others) l.fn.out l.out l.rest.items
