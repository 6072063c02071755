use Rattle.std.proofs.Common.{◌≡◌, ◌≤◌, drop, length}
use Rattle.ded_model.specs.Slotted.{heading_scope}
use Rattle.ded_resolve.proofs.scope.Scope.new.Given as goal

abbrev pub invariant-loop-at : goal.invariant-loop-at
invariant-loop-at l = record {
  place : l.at ≤ length l.columns;
  bound : l.scope ≡ heading_scope l.at (drop l.at l.columns);
}

abbrev pub decreases-loop-at : goal.decreases-loop-at
decreases-loop-at l = l.at
