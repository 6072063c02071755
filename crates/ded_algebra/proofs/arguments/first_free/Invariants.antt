use Rattle.std.proofs.Common.{◌≡◌, ◌≤◌, ◌^◌, max, drop}
use Rattle.ded_model.specs.Scanned.{first_free}
use Rattle.ded_algebra.proofs.arguments.first_free.Given as goal

abbrev pub invariant-loop-place : goal.invariant-loop-place
invariant-loop-place l = record {
  value : max l.above (first_free (drop l.place-index l.places)) ≡ first_free l.places;
  short : l.above ≤ 2 ^ 32;
}
