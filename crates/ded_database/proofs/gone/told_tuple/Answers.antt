use Rattle.std.proofs.Common.{ap, ◌∙◌, nat_cmp}
use Rattle.std.specs.BTreeMap.{is_at}
use Rattle.std.specs.Map.{lookup}
use Rattle.ded_catalog.specs.State.{catalogue_of}
use Rattle.ded_database.proofs.Told.{told_all}
use Rattle.ded_database.proofs.gone.told_tuple.Goals as goal

pub returns-in-Ok : goal.returns-in-Ok
returns-in-Ok c =
    let es = c.in-Some.tuples.now.entries in
    told_all (λ t. t.now) (catalogue_of c.args.catalogue.now) c.args.name.now c.args.number es c.get.result c.formed.ensures c.in-Some.ensures
    (c.get.ensures.value ∙ ap (λ k. lookup (is_at (nat_cmp k)) es) c.in-Ok.ensures.1)
