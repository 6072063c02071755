use Rattle.std.proofs.Common.{◌++◌, take}
use Rattle.ded_genrel.specs.Lists.{conjs_of}
use Rattle.ded_complement.specs.Boxed.{conjs_in}
use Rattle.ded_complement.specs.Pieces.{all_atoms}
use Rattle.ded_complement.proofs.Cutting.{Subtracting}
use Rattle.ded_complement.proofs.difference.minus_boxed.Given as goal

abbrev pub invariant-loop-conj : goal.invariant-loop-conj
invariant-loop-conj g l = Subtracting g.T.Theory.holds g.T.Theory.mentions g.T.Theory.lines g.T.Theory.cell (all_atoms l.from ++ all_atoms (conjs_in l.taken)) (conjs_in l.taken) (conjs_of (take l.conj-index l.conj-items)) l.out
