use Rattle.std.proofs.Common.{◌≡◌, drop}
use Rattle.ded_readback.specs.Reading.{behind_line}
use Rattle.ded_readback.proofs.bytes.behind_line.Given as goal

abbrev pub invariant-loop-i : goal.invariant-loop-i
invariant-loop-i l = behind_line (drop l.i l.bytes) ≡ behind_line l.bytes
