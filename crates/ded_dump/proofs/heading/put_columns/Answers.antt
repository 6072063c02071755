-- One more column was put.
use Rattle.std.proofs.Common.{◌++◌, []}
use Rattle.ded_dump.specs.Headings.{columns_text}
use Rattle.ded_dump.proofs.Loops.{next_column}
use Rattle.ded_dump.proofs.heading.put_columns.Goals as goal

pub loop-column-preserved : goal.loop-column-preserved
loop-column-preserved c =
    next_column (c.args.text.now ++ columns_text [] c.args.columns.now) c.loop-column.text _ _ c.loop-column.lead.now c.args.columns.now c.loop-column.column-index c.column-item.result
    c.loop-column-test.true c.column-item.is c.loop-column.invariant c.in_ok-put.ensures c.in_ok-put_column.ensures
