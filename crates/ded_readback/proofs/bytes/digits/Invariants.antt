use Rattle.std.proofs.Common.{◌≡◌, drop}
use Rattle.ded_readback.specs.Reading.{digits_from}
use Rattle.ded_readback.proofs.bytes.digits.Given as goal

-- the digits so far and those to come
abbrev pub invariant-loop-i : goal.invariant-loop-i
invariant-loop-i l = digits_from l.value (drop l.i l.bytes) ≡ digits_from 0 l.bytes
