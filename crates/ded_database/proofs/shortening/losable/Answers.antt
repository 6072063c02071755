use Rattle.std.proofs.Common.{sym, ◌∙◌, subst}
use Rattle.std.proofs.lemmas.Result.{IfOk-weaker}
use Rattle.ded_database.specs.Changes.{before, after}
use Rattle.ded_database.specs.Lost.{AreLost}
use Rattle.ded_database.proofs.LostViews.{told_but, all_lost}
use Rattle.ded_database.proofs.shortening.losable.Goals as goal

pub returns-then-not-has_rows : goal.returns-then-not-has_rows
returns-then-not-has_rows c = λ g w l i. absurd (c.has_rows.ensures c.if-not-has_rows.true l i)

pub lost_lines-requires-clause-atoms : goal.lost_lines-requires-clause-atoms
lost_lines-requires-clause-atoms c =
    let b = before c.args.renewal.now.change.now in
    let d = after c.args.renewal.now.change.now in
    let n = c.args.renewal.now.change.now.name.now in
    subst (AreLost b d n c.args.gone.now) (sym (c.deref.ensures.value ∙ c.gone.view_is)) (all_lost b d n c.args.gone.now c.requires.delete)

pub returns : goal.returns
returns c = IfOk-weaker c.lost_lines.result _ _ (told_but (before c.args.renewal.now.change.now) (after c.args.renewal.now.change.now) c.args.renewal.now.mark.now.name c.args.list.now c.requires.list) c.lost_lines.ensures
