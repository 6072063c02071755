use Rattle.std.proofs.Common.{ap, sym, ◌∙◌}
use Rattle.std.specs.Option.{option_map}
use Rattle.ded_model.specs.Form.{form}
use Rattle.ded_model.specs.Entries.{entry_of, view_in}
use Rattle.ded_catalog.specs.State.{catalogue_of}
use Rattle.ded_catalog.proofs.Reading.{formula_there, short_there}
use Rattle.ded_catalog.proofs.catalogue.Catalogue.formula.Goals as goal

pub returns-in-Some-clause-value : goal.returns-in-Some-clause-value
returns-in-Some-clause-value c =
    ap (option_map (λ v. form v.formula)) c.in-Some.ensures
    ∙ formula_there c.self.inside.limit c.self.inside.names.entries c.args.name.now c.self.invariant
    ∙ ap (λ t. option_map (λ v. v.1) (view_in (entry_of (catalogue_of t).entries c.args.name.now))) c.self.view_is

pub returns-in-Some-clause-plain : goal.returns-in-Some-clause-plain
returns-in-Some-clause-plain c =
    (short_there c.self.inside.limit c.self.inside.names.entries c.args.name.now c.self.invariant c.in-Some.view.now (sym c.in-Some.ensures)).0

pub returns-in-Some-clause-short : goal.returns-in-Some-clause-short
returns-in-Some-clause-short c =
    (short_there c.self.inside.limit c.self.inside.names.entries c.args.name.now c.self.invariant c.in-Some.view.now (sym c.in-Some.ensures)).1

pub returns-in-None-clause-value : goal.returns-in-None-clause-value
returns-in-None-clause-value c =
    ap (option_map (λ v. form v.formula)) c.in-None.ensures
    ∙ formula_there c.self.inside.limit c.self.inside.names.entries c.args.name.now c.self.invariant
    ∙ ap (λ t. option_map (λ v. v.1) (view_in (entry_of (catalogue_of t).entries c.args.name.now))) c.self.view_is
