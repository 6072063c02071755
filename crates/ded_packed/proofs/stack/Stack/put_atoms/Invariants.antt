use Rattle.std.proofs.Common.{◌≤◌, length}
use Rattle.ded_packed.specs.Putting.{AtomsPut}
use Rattle.ded_packed.proofs.stack.Stack.put_atoms.Given as goal

abbrev pub invariant-loop-at : goal.invariant-loop-at
invariant-loop-at l = record {
  bound : l.at ≤ length l.atoms;
  put : AtomsPut l.atoms l.at l.self;
}

abbrev pub decreases-loop-at : goal.decreases-loop-at
decreases-loop-at l = l.at
