-- A line was written for one tuple more.
use Rattle.ded_cells.specs.Tables.{IsStoredLine}
use Rattle.ded_cells.proofs.Written.{stored_over, writes_next}
use Rattle.ded_cells.proofs.table.put_stored_lines.Goals as goal

pub put_stored_line-requires : goal.put_stored_line-requires
put_stored_line-requires c = stored_over c.args.heading.now c.args.stored.now c.loop-numbered.numbered-index c.numbered-item.result c.loop-numbered-test.true c.numbered-item.is c.requires

pub loop-numbered-preserved : goal.loop-numbered-preserved
loop-numbered-preserved c =
    writes_next (IsStoredLine c.args.heading.now) c.args.text.now c.loop-numbered.text c.put_stored_line.new.text c.put.new.self c.args.stored.now c.loop-numbered.numbered-index c.numbered-item.result
    c.loop-numbered-test.true c.numbered-item.is c.loop-numbered.invariant c.in_ok-put_stored_line.ensures c.in_ok-put.ensures
