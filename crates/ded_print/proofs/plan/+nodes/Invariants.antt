-- What is left to count makes the count whole.
use Rattle.std.proofs.Common.{◌≡◌, drop}
use Rattle.ded_model.specs.PlanForm.{plan_forms}
use Rattle.ded_print.specs.Counts.{raised_by}
use Rattle.ded_print.specs.Nodes.{nodes_of}
use Rattle.ded_print.proofs.plan.+nodes.Given as goal

abbrev pub invariant-count_parts-loop-part : goal.invariant-count_parts-loop-part
invariant-count_parts-loop-part l =
    raised_by (nodes_of (plan_forms l.part-items)) l.fn.count.digits.items ≡ raised_by (nodes_of (plan_forms (drop l.part-index l.part-items))) l.count.digits.items
