use Rattle.std.proofs.Common.{Some, ap, ◌∙◌}
use Rattle.std.specs.Option.{option_map}
use Rattle.ded_model.specs.Entries.{entry_of, relation_in}
use Rattle.ded_catalog.specs.State.{catalogue_of}
use Rattle.ded_catalog.proofs.Reading.{tuples_there}
use Rattle.ded_catalog.proofs.catalogue.Catalogue.stored.Goals as goal

pub returns-in-Some : goal.returns-in-Some
returns-in-Some c =
    ap Some c.tuples.ensures
    ∙ ap (option_map (λ r. r.tuples.entries)) c.in-Some.ensures
    ∙ tuples_there c.self.inside.limit c.self.inside.names.entries c.args.name.now c.self.invariant
    ∙ ap (λ t. relation_in (entry_of (catalogue_of t).entries c.args.name.now)) c.self.view_is

pub returns-in-None : goal.returns-in-None
returns-in-None c =
    ap (option_map (λ r. r.tuples.entries)) c.in-None.ensures
    ∙ tuples_there c.self.inside.limit c.self.inside.names.entries c.args.name.now c.self.invariant
    ∙ ap (λ t. relation_in (entry_of (catalogue_of t).entries c.args.name.now)) c.self.view_is
