-- What is left to put makes the text whole.
use Rattle.std.proofs.Common.{drop}
use Rattle.ded_model.specs.PlanForm.{plan_forms}
use Rattle.ded_print.specs.Depths.{levels}
use Rattle.ded_print.specs.Gathering.{Output, output, Puts}
use Rattle.ded_print.specs.Lines.{lines_text}
use Rattle.ded_print.specs.Plans.{part_lines}
use Rattle.ded_print.proofs.plan.+lines.Given as goal

abbrev pub invariant-put_parts-loop-part : goal.invariant-put_parts-loop-part
invariant-put_parts-loop-part g l =
    let contents = g.K.Sink.contents in
    let faults = g.K.Sink.faults in
    (end : Output) → Puts (output (contents l.sink) (faults l.sink) l.gathered) end (lines_text (part_lines (levels l.depth) (plan_forms (drop l.part-index l.part-items))))
    → Puts (output (contents l.fn.sink) (faults l.fn.sink) l.fn.gathered) end (lines_text (part_lines (levels l.depth) (plan_forms l.part-items)))
