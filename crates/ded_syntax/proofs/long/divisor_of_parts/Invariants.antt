use Rattle.std.proofs.Common.{◌≡◌, drop}
use Rattle.std.specs.Prelude.{unsigned_abs}
use Rattle.ded_num.specs.Gcd.{gcd_from}
use Rattle.ded_num.specs.Length.{IsShort}
use Rattle.ded_model.specs.LongRows.{differences_over}
use Rattle.ded_syntax.proofs.long.divisor_of_parts.Given as goal

abbrev pub invariant-loop-part : goal.invariant-loop-part
invariant-loop-part l = record {
  value : gcd_from (unsigned_abs l.by) (differences_over l.over l.left l.right (drop l.part-index l.parts)) ≡ gcd_from (unsigned_abs l.first) (differences_over l.over l.left l.right l.parts);
  short : IsShort l.by;
}
