use Rattle.std.proofs.Common.{IfSome}
use Rattle.ded_complement.specs.Boxed.{conjs_in}
use Rattle.ded_complement.specs.Keys.{AreKeys}
use Rattle.ded_complement.proofs.keys.keyed.Given as goal

abbrev pub invariant-loop-slot : goal.invariant-loop-slot
invariant-loop-slot g l = IfSome l.best (λ k. AreKeys g.T.Theory.holds l.taken (conjs_in l.taken) k)
