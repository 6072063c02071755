use Rattle.std.proofs.Common.{◌≡◌, ◌+◌, ◌-◌, ◌≤◌, drop, length}
use Rattle.ded_model.specs.Normal.{coefs_order}
use Rattle.ded_row.proofs.ordering.order_coefs.Given as goal

abbrev pub invariant-loop-i : goal.invariant-loop-i
invariant-loop-i l = record {
  place_i : l.i ≤ length l.xs;
  place_j : l.j ≤ length l.ys;
  same : coefs_order (drop l.i l.xs) (drop l.j l.ys) ≡ coefs_order l.xs l.ys;
}

abbrev pub decreases-loop-i : goal.decreases-loop-i
decreases-loop-i l = length l.xs + length l.ys - (l.i + l.j)
