use Rattle.std.proofs.Common.{◌≤◌, length}
use Rattle.ded_packed.specs.Putting.{CoefsPut}
use Rattle.ded_packed.proofs.stack.Stack.put_coefs.Given as goal

abbrev pub invariant-loop-at : goal.invariant-loop-at
invariant-loop-at l = record {
  bound : l.at ≤ length l.coefs;
  put : CoefsPut l.coefs l.at l.initial.self l.self;
}

abbrev pub decreases-loop-at : goal.decreases-loop-at
decreases-loop-at l = l.at
