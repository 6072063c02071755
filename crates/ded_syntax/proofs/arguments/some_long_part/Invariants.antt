use Rattle.std.proofs.Common.{◌≡◌, drop}
use Rattle.std.specs.List.{list_any}
use Rattle.ded_model.specs.LongRows.{coefficients, is_long_over}
use Rattle.ded_syntax.proofs.arguments.some_long_part.Given as goal

abbrev pub invariant-loop-part : goal.invariant-loop-part
invariant-loop-part l = list_any (is_long_over l.by) (coefficients (drop l.part-index l.parts)) ≡ list_any (is_long_over l.by) (coefficients l.parts)
