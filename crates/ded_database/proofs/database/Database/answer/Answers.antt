use Rattle.std.proofs.Common.{◌≡◌, sym, ap, ◌∙◌, subst}
use Rattle.std.specs.Prelude.{IfOk}
use Rattle.ded_model.specs.Catalogue.{Catalogue}
use Rattle.ded_model.specs.Goal.{goal_form}
use Rattle.ded_catalog.specs.Snapshots.{snapshot_of}
use Rattle.ded_query.specs.Questions.{IsQuestion, IsAnswer}
use Rattle.ded_database.specs.State.{catalogue_at}
use Rattle.ded_database.proofs.database.Database.answer.Goals as goal

pub returns-clause-is : goal.returns-clause-is
returns-clause-is g c = λ f q.
    let same : snapshot_of c.present-snapshot.result ≡ catalogue_at c.args.self.now = c.present-snapshot.ensures ∙ ap catalogue_at c.self.view_is in
    subst (λ (k : Catalogue). IfOk c.answer.result (λ ts. IsAnswer k c.args.heading.now f ts)) same
    (c.answer.ensures.is f (subst (λ (k : Catalogue). IsQuestion k c.args.heading.now (goal_form c.args.goal.now) f) (sym same) q))
