-- A line was written for one tuple more.
use Rattle.ded_cells.specs.Tables.{IsAnswerLine}
use Rattle.ded_cells.proofs.Written.{writes_next}
use Rattle.ded_cells.proofs.table.put_lines.Goals as goal

pub loop-tuple-preserved : goal.loop-tuple-preserved
loop-tuple-preserved c =
    writes_next (IsAnswerLine c.args.heading.now) c.args.text.now c.loop-tuple.text c.put_line.new.text c.put.new.self c.args.tuples.now c.loop-tuple.tuple-index c.tuple-item.result
    c.loop-tuple-test.true c.tuple-item.is c.loop-tuple.invariant c.in_ok-put_line.ensures c.in_ok-put.ensures
