use Rattle.std.proofs.Common.{◌≡◌, ◌++◌}
use Rattle.ded_genrel.specs.Lists.{conjs_of}
use Rattle.ded_complement.specs.Boxed.{conjs_in, AreBoxed}
use Rattle.ded_complement.proofs.boxed.push_boxed.Given as goal

abbrev pub invariant-loop-conj : goal.invariant-loop-conj
invariant-loop-conj g l = record {
  same : conjs_in l.out.items ≡ conjs_in l.fn.out.items ++ conjs_of l.yielded;
  boxed : AreBoxed g.T.Theory.holds g.T.Theory.normal l.slots l.out.items;
}
