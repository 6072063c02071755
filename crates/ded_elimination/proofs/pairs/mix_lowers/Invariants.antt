use Rattle.std.proofs.Common.{true}
use Rattle.ded_elimination.specs.Adding.{Adds, OfFirst}
use Rattle.ded_elimination.specs.Pairs.{PairHolds}
use Rattle.ded_elimination.proofs.pairs.mix_lowers.Given as goal

abbrev pub invariant-loop-lower : goal.invariant-loop-lower
invariant-loop-lower g l = Adds g.M.Mixing.rows l.slot l.rows (OfFirst (PairHolds l.slot l.fn.upper) l.rows l.lower-index) l.fn.out.rows.items true l.out.rows.items
