-- One more operand was put.
use Rattle.std.proofs.Common.{◌++◌, []}
use Rattle.ded_dump.specs.Operands.{operands_text}
use Rattle.ded_dump.proofs.Loops.{next_operand}
use Rattle.ded_dump.proofs.operand.put_operands.Goals as goal

pub loop-operand-preserved : goal.loop-operand-preserved
loop-operand-preserved c =
    next_operand (c.args.text.now ++ operands_text [] c.args.operands.now) c.loop-operand.text _ _ c.loop-operand.lead.now c.args.operands.now c.loop-operand.operand-index c.operand-item.result
    c.loop-operand-test.true c.operand-item.is c.loop-operand.invariant c.in_ok-put.ensures c.in_ok-put_operand.ensures
