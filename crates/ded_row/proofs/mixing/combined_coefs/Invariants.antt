use Rattle.std.proofs.Common.{◌+◌, ◌-◌, ◌≤◌, drop, length}
use Rattle.ded_row.proofs.Walks.{Walking}
use Rattle.ded_row.proofs.mixing.combined_coefs.Given as goal

abbrev pub invariant-loop-i : goal.invariant-loop-i
invariant-loop-i l = record {
  place_i : l.i ≤ length l.xs;
  place_j : l.j ≤ length l.ys;
  walking : Walking l.slot l.fn.k l.fn.xs l.fn.m l.fn.ys (drop l.i l.fn.xs) (drop l.j l.fn.ys) l.out;
}

abbrev pub decreases-loop-i : goal.decreases-loop-i
decreases-loop-i l = length l.xs + length l.ys - (l.i + l.j)
