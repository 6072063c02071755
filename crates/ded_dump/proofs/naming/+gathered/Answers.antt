-- The variables of one more formula were put.
use Rattle.std.proofs.Common.{◌++◌}
use Rattle.ded_model.specs.Form.{forms}
use Rattle.ded_dump.specs.Headings.{variables_of}
use Rattle.ded_dump.proofs.Loops.{next_variables}
use Rattle.ded_dump.proofs.naming.+gathered.Goals as goal

pub gather_all-loop-part-preserved : goal.gather_all-loop-part-preserved
gather_all-loop-part-preserved t c =
    let fs = c.deref-part-items.result.now in
    next_variables (c.args.columns.now.items ++ variables_of (forms fs)) c.loop-part.columns.items _ fs c.loop-part.part-index c.part-item.result c.loop-part-test.true c.part-item.is c.loop-part.invariant c.in_ok-gather.ensures
