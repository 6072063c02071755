use Rattle.std.proofs.Common.{◌≡◌, [], sym, ap, ◌∙◌, subst}
use Rattle.std.specs.Prelude.{◌↔◌, IsTrue, IfOk}
use Rattle.ded_model.specs.Catalogue.{Catalogue, IsTruth}
use Rattle.ded_model.specs.Goal.{goal_form}
use Rattle.ded_catalog.specs.Snapshots.{snapshot_of}
use Rattle.ded_query.specs.Questions.{IsQuestion}
use Rattle.ded_database.specs.State.{catalogue_at}
use Rattle.ded_database.proofs.database.Database.is_true.Goals as goal

pub returns-clause-truth : goal.returns-clause-truth
returns-clause-truth g c = λ f q.
    let same : snapshot_of c.present-snapshot.result ≡ catalogue_at c.args.self.now = c.present-snapshot.ensures ∙ ap catalogue_at c.self.view_is in
    subst (λ (k : Catalogue). IfOk c.is_true.result (λ b. IsTrue b ↔ IsTruth k f)) same
    (c.is_true.ensures.truth f (subst (λ (k : Catalogue). IsQuestion k [] (goal_form c.args.goal.now) f) (sym same) q))
