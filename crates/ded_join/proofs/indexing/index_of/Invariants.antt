use Rattle.std.proofs.Common.{take}
use Rattle.ded_genrel.specs.Lists.{conjs_of}
use Rattle.ded_join.specs.Picks.{AreBoxesOf}
use Rattle.ded_join.proofs.indexing.index_of.Given as goal

abbrev pub invariant-loop-conj : goal.invariant-loop-conj
invariant-loop-conj g l = AreBoxesOf g.T.Theory.holds g.T.Theory.mentions g.T.Theory.lines l.slots (conjs_of (take l.conj-index l.conj-items)) l.boxes.items
