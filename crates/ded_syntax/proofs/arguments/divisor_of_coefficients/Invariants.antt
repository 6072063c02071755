use Rattle.std.proofs.Common.{◌≡◌, drop}
use Rattle.std.specs.Prelude.{unsigned_abs}
use Rattle.ded_num.specs.Gcd.{gcd_from}
use Rattle.ded_num.specs.Length.{IsShort}
use Rattle.ded_model.specs.Sum.{ArePartsWithin}
use Rattle.ded_model.specs.LongRows.{coefficients}
use Rattle.ded_syntax.proofs.arguments.divisor_of_coefficients.Given as goal

abbrev pub invariant-loop-part : goal.invariant-loop-part
invariant-loop-part l = record {
  value : gcd_from (unsigned_abs l.by) (coefficients (drop l.part-index l.parts)) ≡ gcd_from (unsigned_abs l.first) (coefficients l.parts);
  short : IsShort l.by;
  within : ArePartsWithin 112 (drop l.part-index l.parts);
}
