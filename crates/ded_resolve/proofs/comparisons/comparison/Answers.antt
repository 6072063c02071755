use Rattle.std.proofs.Common.{◌≡◌, ◌||◌, true, sym, ap, ap₂, ◌∙◌, subst}
use Rattle.std.proofs.lemmas.Result.{IfOk-weaker}
use Rattle.ded_model.specs.Sum.{SlotSum}
use Rattle.ded_model.specs.Goal.{goal_form}
use Rattle.ded_model.specs.Slotted.{is_text_operand, sums_goal, compare_goal}
use Rattle.ded_model.proofs.Rows.{or_left, or_right}
use Rattle.ded_resolve.specs.Scope.{sum_over}
use Rattle.ded_resolve.specs.Tuples.{IsTextSide}
use Rattle.ded_resolve.proofs.Denominators.{goal_over}
use Rattle.ded_resolve.proofs.Summing.{in_code}
use Rattle.ded_resolve.proofs.Fitting.{text_sides}
use Rattle.ded_resolve.proofs.comparisons.comparison.Goals as goal
use Rattle.ded_resolve.proofs.comparisons.comparison.Goals.{then-is_text-via-then-is_text, then-is_text-via-else-is_text+then-is_text-2}
use Rattle.ded_model.proofs.Bools.{or_false_right}

pub returns-then-is_text-clause-normal : goal.returns-then-is_text-clause-normal
returns-then-is_text-clause-normal c = λ sorted.
    let scope = c.args.scope.now in
    let some : (is_text_operand scope c.args.left.now || is_text_operand scope c.args.right.now) ≡ true = elim c.then-is_text.branch [
      | then-is_text-via-then-is_text w ↦ or_left _ _ (sym w.if-is_text.ensures)
      | then-is_text-via-else-is_text+then-is_text-2 w ↦ or_right (is_text_operand scope c.args.left.now) _ (sym w.if-is_text-2.ensures)
    ] in
    let sides = text_sides scope c.args.left.now c.args.right.now c.args.op (or_false_right _ _ sorted) some in
    c.texts.ensures.normal (subst IsTextSide (sym c.text_side.ensures) sides.0) (subst IsTextSide (sym c.text_side-then-is_text.ensures) sides.1)

pub returns-clause-goal : goal.returns-clause-goal
returns-clause-goal c =
    let scope = c.args.scope.now in
    let is_goal = goal_over scope c.args.left.now c.args.op c.args.right.now c.denominator-over.result c.denominator-over.ensures.positive c.denominator-over.ensures.value c.requires.plain.2
    (sym c.is_text.ensures ∙ c.if-is_text.false) (sym c.is_text-else-is_text.ensures ∙ c.if-is_text-2.false) in
    IfOk-weaker c.sums.result _ (λ g. goal_form g ≡ compare_goal scope c.args.left.now c.args.op c.args.right.now)
    (λ g e.
    e ∙ ap₂ (λ (l r : SlotSum). sums_goal l c.args.op r) c.in_ok-left.ensures.value c.in_ok-right.ensures.value
    ∙ ap (λ z. sums_goal (sum_over z scope c.args.left.now) c.args.op (sum_over z scope c.args.right.now)) (in_code c.denominator-over.result c.denominator-over.ensures.within) ∙ is_goal)
    c.sums.ensures.goal
