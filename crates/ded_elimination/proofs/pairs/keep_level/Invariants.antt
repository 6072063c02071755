use Rattle.std.proofs.Common.{true}
use Rattle.ded_elimination.specs.Adding.{Adds, OfFirst}
use Rattle.ded_elimination.specs.Pairs.{LevelHolds}
use Rattle.ded_elimination.proofs.pairs.keep_level.Given as goal

abbrev pub invariant-loop-row : goal.invariant-loop-row
invariant-loop-row g l = Adds g.M.Mixing.rows l.slot l.rows (OfFirst (LevelHolds l.slot) l.rows l.row-index) l.fn.out.rows.items true l.out.rows.items
