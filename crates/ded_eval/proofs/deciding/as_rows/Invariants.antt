use Rattle.std.proofs.Common.{◌≡◌}
use Rattle.ded_genrel.specs.Lists.{conjs_of}
use Rattle.ded_eval.proofs.deciding.as_rows.Given as goal

abbrev pub invariant-loop-conj : goal.invariant-loop-conj
invariant-loop-conj l = l.rows ≡ conjs_of l.yielded
