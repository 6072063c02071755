-- What is put and what is left to put make the whole.
use Rattle.std.proofs.Common.{◌≡◌, ◌++◌, [], drop}
use Rattle.ded_dump.specs.Operands.{operands_text}
use Rattle.ded_dump.proofs.operand.put_operands.Given as goal

abbrev pub invariant-loop-operand : goal.invariant-loop-operand
invariant-loop-operand l = l.text ++ operands_text l.lead (drop l.operand-index l.operands) ≡ l.fn.text ++ operands_text [] l.operands
