use Rattle.std.proofs.Common.{◌==◌, sym, ap, ◌∙◌}
use Rattle.std.specs.List.{list_any}
use Rattle.ded_model.specs.Entries.{tuples_in, stored_in}
use Rattle.ded_catalog.specs.State.{catalogue_of}
use Rattle.ded_catalog.proofs.Calls.{upto_there, entry_there}
use Rattle.ded_catalog.proofs.Reading.{relation_found, none_there}
use Rattle.ded_catalog.proofs.catalogue.names.CatalogueNames.has_tuple.Goals as goal

pub has-requires : goal.has-requires
has-requires c = upto_there c.self.inside.limit c.self.inside.names.entries c.args.name.now c.self.invariant c.in-Some.relation.now (relation_found _ _ c.in-Some.ensures)

pub returns-in-Some : goal.returns-in-Some
returns-in-Some c =
    c.has.ensures
    ∙ ap (list_any (λ t. t.0 == c.args.number)) (
    ap stored_in (sym (entry_there c.self.inside.limit c.self.inside.names.entries c.args.name.now c.self.invariant c.in-Some.relation.now (relation_found _ _ c.in-Some.ensures)))
    ∙ ap (λ t. tuples_in (catalogue_of t) c.args.name.now) c.self.view_is
    )

pub returns-in-None : goal.returns-in-None
returns-in-None c =
    ap (list_any (λ t. t.0 == c.args.number)) (
    sym (none_there c.self.inside.limit c.self.inside.names.entries c.args.name.now c.self.invariant c.in-None.ensures)
    ∙ ap (λ t. tuples_in (catalogue_of t) c.args.name.now) c.self.view_is
    )
