-- A node's line, and then its parts.
use Rattle.std.proofs.Common.{◌≡◌, rules, sym, ap, ◌∙◌, ◌+◌, ◌++◌, ◌∷◌, ⊎_elim}
use Rattle.ded_model.specs.declared.plan.Plan.TheFolds.{fold-roll-Plan, fold_out-Plan}
use Rattle.ded_model.specs.declared.plan.Plan.TheViews.{the_lemmas}
use Rattle.ded_model.specs.Logic.{atom, negation, every_of, some_of, minus, exists}
use Rattle.ded_model.specs.PlanForm.{scan, rows, plan_form, plan_forms}
use Rattle.ded_model.specs.Point.{slot}
use Rattle.ded_print.specs.Depths.{levels}
use Rattle.ded_print.specs.Gathering.{output}
use Rattle.ded_print.specs.Nodes.{node_text}
use Rattle.ded_print.specs.Plans.{indent, node_lines, part_lines}
use Rattle.ded_print.proofs.Gathering.{puts_both, puts_as}
use Rattle.ded_print.proofs.Plans.{deeper_node, deeper_parts, lines_both, lone_node, next_part, whole_node}
use Rattle.ded_print.proofs.plan.+lines.Goals as goal

pub put_node-returns-in-Minus : goal.put_node-returns-in-Minus
put_node-returns-in-Minus g t c =
    let from = plan_form c.deref.result.now in
    let taken = plan_form c.deref-in-Minus.result.now in
    let e : plan_form c.args.plan.now ≡ minus from taken = search (rules, the_lemmas, fold-roll-Plan, fold_out-Plan) in
    let d = levels c.args.depth.now in
    let parts = puts_as _ _ _ _ (sym (lines_both (node_lines (d + 1) from) (node_lines (d + 1) taken))) (puts_both _ _ _ _ _ (deeper_node _ _ _ from c.put_node.ensures) (deeper_node _ _ _ taken c.put_node-in-Minus.ensures)) in
    whole_node _ _ d (plan_form c.args.plan.now) (node_lines (d + 1) from ++ node_lines (d + 1) taken) (ap (node_lines d) e ∙ ap (λ f. (indent d ++ node_text f) ∷ (node_lines (d + 1) from ++ node_lines (d + 1) taken)) (sym e))
    (puts_both _ _ _ _ _ c.put_indent.ensures (puts_both _ _ _ _ _ c.put_node_text.ensures (puts_both _ _ _ _ _ c.put.ensures parts)))

pub put_node-returns-in-Scan : goal.put_node-returns-in-Scan
put_node-returns-in-Scan g t c =
    let e : plan_form c.args.plan.now ≡ atom (scan c.in-Scan.field-0 c.in-Scan.field-1) = search (rules, the_lemmas, fold-roll-Plan, fold_out-Plan) in
    lone_node _ _ _ _ _ e (puts_both _ _ _ _ _ c.put_indent.ensures (puts_both _ _ _ _ _ c.put_node_text.ensures c.put.ensures))

pub put_node-returns-in-Rows : goal.put_node-returns-in-Rows
put_node-returns-in-Rows g t c =
    let e : plan_form c.args.plan.now ≡ atom (rows c.in-Rows.field-0) = search (rules, the_lemmas, fold-roll-Plan, fold_out-Plan) in
    lone_node _ _ _ _ _ e (puts_both _ _ _ _ _ c.put_indent.ensures (puts_both _ _ _ _ _ c.put_node_text.ensures c.put.ensures))

pub put_node-returns-in-Not : goal.put_node-returns-in-Not
put_node-returns-in-Not g t c =
    let part = plan_form c.deref-in-Not.result.now in
    let d = levels c.args.depth.now in
    let line = puts_both _ _ _ _ _ c.put_indent.ensures (puts_both _ _ _ _ _ c.put_node_text.ensures (puts_both _ _ _ _ _ c.put.ensures (deeper_node _ _ _ part c.put_node-in-Not.ensures))) in
    ⊎_elim
    (λ h. let e : plan_form c.args.plan.now ≡ negation part = search (rules, the_lemmas, fold-roll-Plan, fold_out-Plan) in
    whole_node _ _ d (plan_form c.args.plan.now) (node_lines (d + 1) part) (ap (node_lines d) e ∙ ap (λ f. (indent d ++ node_text f) ∷ node_lines (d + 1) part) (sym e)) line)
    (λ h. let e : plan_form c.args.plan.now ≡ exists h.0.sort (slot h.0) part = let i = h.1 in search (rules, the_lemmas, fold-roll-Plan, fold_out-Plan) in
    whole_node _ _ d (plan_form c.args.plan.now) (node_lines (d + 1) part) (ap (node_lines d) e ∙ ap (λ f. (indent d ++ node_text f) ∷ node_lines (d + 1) part) (sym e)) line)
    c.in-Not.is

pub put_node-returns-in-Join : goal.put_node-returns-in-Join
put_node-returns-in-Join g t c =
    let parts = plan_forms c.in-Join.parts.items in
    let d = levels c.args.depth.now in
    let line = puts_both _ _ _ _ _ c.put_indent.ensures (puts_both _ _ _ _ _ c.put_node_text.ensures (puts_both _ _ _ _ _ c.put.ensures (deeper_parts _ _ _ parts c.put_parts.ensures))) in
    ⊎_elim
    (λ h. let e : plan_form c.args.plan.now ≡ every_of parts = search (rules, the_lemmas, fold-roll-Plan, fold_out-Plan) in
    whole_node _ _ d (plan_form c.args.plan.now) (part_lines (d + 1) parts) (ap (node_lines d) e ∙ ap (λ f. (indent d ++ node_text f) ∷ part_lines (d + 1) parts) (sym e)) line)
    (λ h. let e : plan_form c.args.plan.now ≡ some_of parts = search (rules, the_lemmas, fold-roll-Plan, fold_out-Plan) in
    whole_node _ _ d (plan_form c.args.plan.now) (part_lines (d + 1) parts) (ap (node_lines d) e ∙ ap (λ f. (indent d ++ node_text f) ∷ part_lines (d + 1) parts) (sym e)) line)
    c.in-Join.is

pub put_parts-loop-part-preserved : goal.put_parts-loop-part-preserved
put_parts-loop-part-preserved g t c =
    let start = output (g.K.Sink.contents c.args.sink.now) (g.K.Sink.faults c.args.sink.now) c.args.gathered.now in
    let now = output (g.K.Sink.contents c.loop-part.sink) (g.K.Sink.faults c.loop-part.sink) c.loop-part.gathered in
    let next = output (g.K.Sink.contents c.put_node.new.sink) (g.K.Sink.faults c.put_node.new.sink) c.put_node.new.gathered in
    next_part start now next (levels c.args.depth.now) c.deref-part-items.result.now c.loop-part.part-index c.part-item.result c.loop-part-test.true c.part-item.is c.loop-part.invariant c.put_node.ensures
