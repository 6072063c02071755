use Rattle.std.proofs.Common.{take}
use Rattle.ded_genrel.specs.Lists.{conjs_of}
use Rattle.ded_genrel.proofs.Renamed.{IsListRenaming}
use Rattle.ded_genrel.proofs.list.GenRel.rename.Given as goal

abbrev pub invariant-loop-conj : goal.invariant-loop-conj
invariant-loop-conj g l = IsListRenaming g.T.Theory.holds g.T.Theory.mentions g.T.Theory.lines l.map (conjs_of (take l.conj-index l.conj-items)) l.out
