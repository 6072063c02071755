use Rattle.std.proofs.Common.{take}
use Rattle.ded_join.specs.Picks.{picked}
use Rattle.ded_join.specs.Taken.{AreTakenAfter}
use Rattle.ded_join.proofs.near.push_near.Given as goal

abbrev pub invariant-loop-place : goal.invariant-loop-place
invariant-loop-place g l = AreTakenAfter l.taken g.T.Theory.holds g.T.Theory.mentions g.T.Theory.lines (picked l.conj l.list (take l.place-index l.places)) l.fn.out l.out
