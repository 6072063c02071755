use Rattle.std.proofs.Common.{sym, ap, subst, ◌∙◌}
use Rattle.ded_database.specs.declared.change.TupleStep.TheVariants.{Deleted}
use Rattle.ded_database.specs.Changes.{before, after, inserted_in, IsDelete}
use Rattle.ded_database.proofs.Told.{step_told, step_inserts}
use Rattle.ded_database.proofs.renewing.followed.Goals as goal

pub list_without-requires-clause-delete : goal.list_without-requires-clause-delete
list_without-requires-clause-delete g c =
    let x = c.args.renewal.now.change.now in
    subst (IsDelete (before x) (after x) x.name.now) (sym c.in_ok-gone-in-Some.ensures) (step_told (before x) (after x) x.name.now x.step _ (c.in-Deleted.is ∙ ap Deleted c.in-Some.is) c.requires.told)

pub extended-requires-clause-insert : goal.extended-requires-clause-insert
extended-requires-clause-insert g c =
    let x = c.args.renewal.now.change.now in
    step_inserts (before x) (after x) x.name.now c.in-Inserted.tuple.now (inserted_in x.step) (ap inserted_in c.in-Inserted.is) c.requires.change
