use Rattle.std.proofs.Common.{◌≤◌, ◌-◌, length}
use Rattle.ded_syntax.proofs.Headers.{IsWalkedTo}
use Rattle.ded_syntax.proofs.header.is_header.Given as goal

abbrev pub invariant-loop-at : goal.invariant-loop-at
invariant-loop-at l = record {
  within : l.at ≤ length l.bytes;
  walked : IsWalkedTo l.bytes l.at l.progress;
}

abbrev pub decreases-loop-at : goal.decreases-loop-at
decreases-loop-at l = length l.bytes - l.at
