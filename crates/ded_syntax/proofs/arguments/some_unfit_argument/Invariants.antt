use Rattle.std.proofs.Common.{◌≡◌, drop}
use Rattle.std.specs.List.{list_any}
use Rattle.ded_syntax.specs.Marks.{is_unfit_argument}
use Rattle.ded_syntax.proofs.arguments.some_unfit_argument.Given as goal

abbrev pub invariant-loop-operand : goal.invariant-loop-operand
invariant-loop-operand l = list_any is_unfit_argument (drop l.operand-index l.operands) ≡ list_any is_unfit_argument l.operands
