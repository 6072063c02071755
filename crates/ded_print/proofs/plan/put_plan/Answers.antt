-- The count, the lines, and the end.
use Rattle.std.proofs.Common.{ap}
use Rattle.std.specs.Prelude.{codes}
use Rattle.ded_model.specs.PlanForm.{plan_form}
use Rattle.ded_print.specs.Plans.{node_lines}
use Rattle.ded_print.specs.Lines.{lines_text}
use Rattle.ded_print.proofs.Gathering.{puts_both, puts_as}
use Rattle.ded_print.proofs.Answers.{counted}
use Rattle.ded_print.proofs.Plans.{top_is}
use Rattle.ded_print.proofs.plan.put_plan.Goals as goal

pub returns : goal.returns
returns g c =
    let node = puts_as _ _ _ _ (ap (λ d. lines_text (node_lines d (plan_form c.args.plan.now))) top_is) c.put_node.ensures in
    counted _ _ (codes "plan") _ (node_lines 0 (plan_form c.args.plan.now))
    (puts_both _ _ _ _ _ c.put.ensures (puts_both _ _ _ _ _ c.put_count.ensures (puts_both _ _ _ _ _ c.put-2.ensures (puts_both _ _ _ _ _ node c.put-3.ensures))))
