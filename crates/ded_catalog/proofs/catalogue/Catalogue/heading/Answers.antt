use Rattle.std.proofs.Common.{ap, ◌∙◌}
use Rattle.std.specs.Option.{option_map}
use Rattle.ded_model.specs.Entries.{known}
use Rattle.ded_catalog.specs.State.{catalogue_of}
use Rattle.ded_catalog.proofs.Reading.{heading_there}
use Rattle.ded_catalog.proofs.catalogue.Catalogue.heading.Goals as goal

pub returns : goal.returns
returns c =
    c.heading_of.ensures
    ∙ heading_there c.self.inside.limit c.self.inside.names.entries c.args.name.now c.self.invariant
    ∙ ap (λ t. option_map (λ k. k.columns) (known (catalogue_of t) c.args.name.now)) c.self.view_is
