use Rattle.std.proofs.Common.{◌≡◌}
use Rattle.ded_complement.specs.Boxed.{conjs_in}
use Rattle.ded_complement.proofs.boxed.unboxed.Given as goal

abbrev pub invariant-loop-boxed : goal.invariant-loop-boxed
invariant-loop-boxed g l = l.out ≡ conjs_in l.yielded
