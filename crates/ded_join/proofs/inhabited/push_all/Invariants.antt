use Rattle.std.proofs.Common.{take}
use Rattle.ded_genrel.specs.Lists.{conjs_of, pairs_with}
use Rattle.ded_join.specs.Taken.{AreTakenAfter}
use Rattle.ded_join.specs.declared.near.Taken.TheVariants.{Inhabited}
use Rattle.ded_join.proofs.inhabited.push_all.Given as goal

abbrev pub invariant-loop-more : goal.invariant-loop-more
invariant-loop-more g l = AreTakenAfter Inhabited g.T.Theory.holds g.T.Theory.mentions g.T.Theory.lines (pairs_with l.conj (conjs_of (take l.more-index l.more-items))) l.fn.out l.out
