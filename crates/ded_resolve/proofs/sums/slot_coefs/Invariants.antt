use Rattle.std.proofs.Common.{◌≤◌, drop, length}
use Rattle.ded_model.specs.Coefs.{AreCoefs}
use Rattle.ded_resolve.proofs.Summing.{Summing}
use Rattle.ded_resolve.proofs.sums.slot_coefs.Given as goal

abbrev pub invariant-loop-at : goal.invariant-loop-at
invariant-loop-at l = record {
  place : l.at ≤ length l.parts;
  kept : AreCoefs l.coefs;
  done : Summing l.scope (drop l.at l.parts) l.coefs;
}

abbrev pub decreases-loop-at : goal.decreases-loop-at
decreases-loop-at l = l.at
