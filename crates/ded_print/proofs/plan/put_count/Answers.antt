-- The digits counted are those of the number of nodes.
use Rattle.std.proofs.Common.{ap, sym, ◌∙◌, reverse}
use Rattle.ded_model.specs.PlanForm.{plan_form}
use Rattle.ded_print.specs.Counts.{raised_by}
use Rattle.ded_print.specs.Nodes.{nodes}
use Rattle.ded_print.specs.Numbers.{count_text}
use Rattle.ded_print.proofs.Counts.{counted_text}
use Rattle.ded_print.proofs.Gathering.{puts_as}
use Rattle.ded_print.proofs.Plans.{counted_nodes}
use Rattle.ded_print.proofs.plan.put_count.Goals as goal

pub returns : goal.returns
returns g c =
    let n = nodes (plan_form c.args.plan.now) in
    puts_as _ _ _ _
    (ap reverse (c.count_nodes.ensures ∙ ap (raised_by n) c.new-count.ensures) ∙ counted_text n ∙ ap count_text (sym (counted_nodes 0 (plan_form c.args.plan.now))))
    c.put.ensures
