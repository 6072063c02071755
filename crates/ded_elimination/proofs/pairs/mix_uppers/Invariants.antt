use Rattle.std.proofs.Common.{true}
use Rattle.ded_elimination.specs.Adding.{Adds, OfFirst}
use Rattle.ded_elimination.specs.Pairs.{UpperHolds}
use Rattle.ded_elimination.proofs.pairs.mix_uppers.Given as goal

abbrev pub invariant-loop-upper : goal.invariant-loop-upper
invariant-loop-upper g l = Adds g.M.Mixing.rows l.slot l.rows (OfFirst (UpperHolds l.slot l.rows) l.rows l.upper-index) l.fn.out.rows.items true l.out.rows.items
