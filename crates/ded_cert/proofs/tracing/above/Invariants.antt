use Rattle.std.proofs.Common.{◌^◌, ◌<◌, ◌≤◌, take}
use Rattle.ded_model.specs.Coefs.{AllBelow}
use Rattle.ded_cert.proofs.tracing.above.Given as goal

abbrev pub invariant-loop-slot : goal.invariant-loop-slot
invariant-loop-slot l = record {
  least : l.least ≤ l.number;
  above : l.number < 2 ^ 31 → AllBelow l.number (take l.slot-index l.coefs);
}
