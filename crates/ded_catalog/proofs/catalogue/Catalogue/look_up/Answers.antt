use Rattle.std.proofs.Common.{None, Some, ap, ◌∙◌, subst}
use Rattle.std.specs.Option.{option_map}
use Rattle.ded_model.specs.Entries.{entry_of, relation_in}
use Rattle.ded_relation.specs.Nearby.{numbered, AreFound}
use Rattle.ded_catalog.specs.State.{catalogue_of}
use Rattle.ded_catalog.proofs.Reading.{tuples_there}
use Rattle.ded_catalog.proofs.catalogue.Catalogue.look_up.Goals as goal

pub returns-in_ok-near-in-Some-clause-found : goal.returns-in_ok-near-in-Some-clause-found
returns-in_ok-near-in-Some-clause-found g c =
    subst (AreFound c.args.window.now (Some (numbered c.in_ok-near-in-Some.field-0.items)))
    (ap (option_map (λ r. r.tuples.entries)) c.in-Some.ensures ∙ tuples_there c.self.inside.limit c.self.inside.names.entries c.args.name.now c.self.invariant
    ∙ ap (λ t. relation_in (entry_of (catalogue_of t).entries c.args.name.now)) c.self.view_is)
    c.in_ok-near-in-Some.ensures.found

pub returns-in-None-clause-found : goal.returns-in-None-clause-found
returns-in-None-clause-found g c =
    subst (AreFound c.args.window.now None)
    (ap (option_map (λ r. r.tuples.entries)) c.in-None.ensures ∙ tuples_there c.self.inside.limit c.self.inside.names.entries c.args.name.now c.self.invariant
    ∙ ap (λ t. relation_in (entry_of (catalogue_of t).entries c.args.name.now)) c.self.view_is)
    tt
