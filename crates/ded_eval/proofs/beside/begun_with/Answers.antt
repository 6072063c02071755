use Rattle.std.proofs.Common.{◌++◌, ◌∷◌, [], ◌∙◌, ap}
use Rattle.ded_eval.proofs.Evaluated.{begun_some}
use Rattle.ded_eval.proofs.beside.begun_with.Goals as goal

pub returns : goal.returns
returns g c =
    begun_some g.T.Theory.holds g.T.Theory.mentions g.T.Theory.lines c.args.atoms.items c.push.new.self c.in_ok-inhabited.field-0
    (c.in_ok-push.ensures.pushed ∙ ap (λ xs. xs ++ c.args.atoms.items ∷ []) c.new-list.ensures) c.in_ok-inhabited.ensures
