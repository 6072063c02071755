use Rattle.std.proofs.Common.{true}
use Rattle.ded_elimination.specs.Adding.{Adds, OfFirst}
use Rattle.ded_elimination.specs.Equalities.{SettledHolds}
use Rattle.ded_elimination.proofs.equality.by_equality.Given as goal

abbrev pub invariant-loop-i : goal.invariant-loop-i
invariant-loop-i g l = Adds g.M.Mixing.rows l.slot l.rows (OfFirst (SettledHolds l.slot l.equal) l.rows l.i) l.fn.out.rows.items true l.out.rows.items
