use Rattle.std.proofs.Common.{◌≡◌, ◌≤◌, ◌^◌, max, drop}
use Rattle.ded_model.specs.Scanned.{above_coefs}
use Rattle.ded_algebra.proofs.arguments.above_coefs.Given as goal

abbrev pub invariant-loop-slot : goal.invariant-loop-slot
invariant-loop-slot l = record {
  value : max l.above (above_coefs (drop l.slot-index l.coefs)) ≡ above_coefs l.coefs;
  short : l.above ≤ 2 ^ 32;
}
