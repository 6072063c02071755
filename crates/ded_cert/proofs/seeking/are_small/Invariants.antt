use Rattle.std.proofs.Common.{◌≡◌, ◌<◌, ◌≤◌, ◌+◌, ◌^◌, drop}
use Rattle.ded_cert.specs.Certified.{magnitudes}
use Rattle.ded_cert.proofs.seeking.are_small.Given as goal

abbrev pub invariant-loop-number : goal.invariant-loop-number
invariant-loop-number l = record {
  some : 0 < l.room;
  most : l.room ≤ 2 ^ 63;
  same : magnitudes l.numbers + l.room ≡ magnitudes (drop l.number-index l.numbers) + 2 ^ 63;
}
