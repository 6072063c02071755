use Rattle.std.proofs.Common.{◌++◌, ◌∷◌, [], ◌∙◌, ap}
use Rattle.std.proofs.lemmas.Result.{IfOk-weaker}
use Rattle.ded_eval.proofs.Evaluated.{rows_for}
use Rattle.ded_eval.proofs.evaluation.rows.Goals as goal

pub returns : goal.returns
returns g c = IfOk-weaker c.inhabited.result _ _ (λ r k d.
    rows_for g.T.Theory.holds g.T.Theory.mentions g.T.Theory.lines d c.args.tuple.now c.in_ok-conjunction.field-0.items c.push.new.self r
    (c.in_ok-push.ensures.pushed ∙ ap (λ xs. xs ++ c.in_ok-conjunction.field-0.items ∷ []) c.new-list.ensures) c.in_ok-conjunction.ensures.stands k) c.inhabited.ensures
