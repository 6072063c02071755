use Rattle.std.proofs.Common.{◌≡◌, [], drop, false}
use Rattle.ded_model.specs.Point.{AllBytes}
use Rattle.ded_readback.specs.Reading.{unquoted}
use Rattle.ded_readback.proofs.theme.unquoted.Given as goal

abbrev pub invariant-loop-i : goal.invariant-loop-i
invariant-loop-i l = record {
  same : unquoted l.text.items l.closed (drop l.i l.bytes) ≡ unquoted [] false l.bytes;
  each : AllBytes l.text.items;
}
