use Rattle.std.proofs.Common.{ap, ◌∙◌}
use Rattle.std.specs.List.{list_any}
use Rattle.ded_model.specs.Entries.{entry_uses}
use Rattle.ded_catalog.specs.State.{catalogue_of}
use Rattle.ded_catalog.proofs.Reading.{uses_there}
use Rattle.ded_catalog.proofs.Unused.{unused_there}
use Rattle.ded_catalog.proofs.catalogue.names.CatalogueNames.used.Goals as goal

pub some_uses-requires : goal.some_uses-requires
some_uses-requires c = unused_there c.self.inside.limit c.self.inside.names.entries c.args.name.now c.self.invariant

pub returns : goal.returns
returns c =
    c.some_uses.ensures
    ∙ uses_there c.args.name.now c.self.inside.names.entries
    ∙ ap (λ t. list_any (entry_uses c.args.name.now) (catalogue_of t).entries) c.self.view_is
