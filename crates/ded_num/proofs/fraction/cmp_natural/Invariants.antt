use Rattle.std.proofs.Common.{◌≡◌, ◌*◌, ◌<◌, ◌+◌}
use Rattle.std.specs.Ordering.{nat_cmp}
use Rattle.ded_num.proofs.fraction.cmp_natural.Given as goal

abbrev pub invariant-loop-by_whole : goal.invariant-loop-by_whole
invariant-loop-by_whole l = record {
  order : nat_cmp (l.n1 * l.d2) (l.n2 * l.d1) ≡ nat_cmp (l.fn.n1 * l.fn.d2) (l.fn.n2 * l.fn.d1);
  positive_1 : 0 < l.d1;
  positive_2 : 0 < l.d2;
}

abbrev pub decreases-loop-by_whole : goal.decreases-loop-by_whole
decreases-loop-by_whole l = l.d1 + l.d2
