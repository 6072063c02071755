use Rattle.std.proofs.Common.{ℕ, ◌^◌, ◌<◌}
use Rattle.std.specs.Int.{IsGcd}
use Rattle.ded_num.proofs.divisor.gcd_of.Given as goal

abbrev pub invariant-loop-y : goal.invariant-loop-y
invariant-loop-y l = record {
  divisor : (g : ℕ) → IsGcd l.x l.y g → IsGcd l.fn.a l.fn.b g;
  short_x : l.x < 2 ^ 127;
  short_y : l.y < 2 ^ 127;
}

abbrev pub decreases-loop-y : goal.decreases-loop-y
decreases-loop-y l = l.y
