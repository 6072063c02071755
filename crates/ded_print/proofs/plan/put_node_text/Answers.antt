-- What each node is.
use Rattle.std.proofs.Common.{◌≡◌, rules, sym, ap, ◌∙◌}
use Rattle.ded_model.specs.declared.plan.Plan.TheFolds.{fold-roll-Plan, fold_out-Plan}
use Rattle.ded_model.specs.declared.plan.Plan.TheViews.{the_lemmas}
use Rattle.ded_model.specs.Logic.{atom, every_of, some_of, exists}
use Rattle.ded_model.specs.PlanForm.{rows, plan_form, plan_forms}
use Rattle.ded_model.specs.Point.{slot}
use Rattle.ded_print.specs.Numbers.{number_text}
use Rattle.ded_print.specs.Nodes.{node_text}
use Rattle.ded_print.specs.Tuples.{slot_names, tuple_text}
use Rattle.ded_print.proofs.Gathering.{puts_both, puts_as}
use Rattle.ded_print.proofs.Plans.{parts_are}
use Rattle.ded_print.proofs.plan.put_node_text.Goals as goal

pub returns-in-Rows : goal.returns-in-Rows
returns-in-Rows g c =
    let e : plan_form c.args.plan.now ≡ atom (rows c.in-Rows.tuple) = search (rules, the_lemmas, fold-roll-Plan, fold_out-Plan) in
    puts_as _ _ _ _ (ap node_text (sym e)) (puts_both _ _ _ _ _ c.put.ensures (puts_as _ _ _ _ (ap (tuple_text slot_names) c.atoms_of.ensures) c.put_atoms.ensures))

pub returns-in-Join : goal.returns-in-Join
returns-in-Join g c =
    let e : plan_form c.args.plan.now ≡ every_of (plan_forms c.in-Join.parts.items) = search (rules, the_lemmas, fold-roll-Plan, fold_out-Plan) in
    let count = c.len.ensures ∙ c.in-Join.parts.ok.0 ∙ sym (parts_are c.in-Join.parts.items) in
    puts_as _ _ _ _ (ap node_text (sym e)) (puts_both _ _ _ _ _ c.put-in-Join.ensures (puts_as _ _ _ _ (ap number_text count) c.put_natural.ensures))

pub returns-in-Union : goal.returns-in-Union
returns-in-Union g c =
    let e : plan_form c.args.plan.now ≡ some_of (plan_forms c.in-Union.parts.items) = search (rules, the_lemmas, fold-roll-Plan, fold_out-Plan) in
    let count = c.len-in-Union.ensures ∙ c.in-Union.parts.ok.0 ∙ sym (parts_are c.in-Union.parts.items) in
    puts_as _ _ _ _ (ap node_text (sym e)) (puts_both _ _ _ _ _ c.put-in-Union.ensures (puts_as _ _ _ _ (ap number_text count) c.put_natural-in-Union.ensures))

pub returns-in-Project : goal.returns-in-Project
returns-in-Project g c =
    let e : plan_form c.args.plan.now ≡ exists c.in-Project.slot.sort (slot c.in-Project.slot) (plan_form c.in-Project.field-1.value) = search (rules, the_lemmas, fold-roll-Plan, fold_out-Plan) in
    let sort = puts_as _ _ _ _ c.sort_bytes.ensures c.put-in-Project-2.ensures in
    puts_as _ _ _ _ (ap node_text (sym e)) (puts_both _ _ _ _ _ c.put-in-Project.ensures (puts_both _ _ _ _ _ c.put_name.ensures sort))
