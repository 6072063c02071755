use Rattle.std.proofs.Common.{ap, sym, ◌∙◌, subst, is_none}
use Rattle.std.specs.Prelude.{IfSome}
use Rattle.ded_model.specs.Entries.{entry_of, view_in}
use Rattle.ded_catalog.specs.Mentions.{AreMentions}
use Rattle.ded_catalog.specs.State.{catalogue_of}
use Rattle.ded_catalog.proofs.Reading.{mentions_there, no_view_there}
use Rattle.ded_catalog.proofs.catalogue.Catalogue.mentions.Goals as goal

pub returns-in-Some-clause-none : goal.returns-in-Some-clause-none
returns-in-Some-clause-none c =
    ap is_none c.in-Some.ensures
    ∙ no_view_there c.self.inside.limit c.self.inside.names.entries c.args.name.now c.self.invariant
    ∙ ap (λ t. is_none (view_in (entry_of (catalogue_of t).entries c.args.name.now))) c.self.view_is

pub returns-in-Some-clause-mentions : goal.returns-in-Some-clause-mentions
returns-in-Some-clause-mentions c =
    subst (λ ns. IfSome (view_in (entry_of (catalogue_of c.args.self.now).entries c.args.name.now)) (λ v. AreMentions ns v.1)) (sym c.as_slice.ensures.value)
    (subst (λ t. IfSome (view_in (entry_of (catalogue_of t).entries c.args.name.now)) (λ v. AreMentions c.in-Some.view.now.mentions.items v.1)) c.self.view_is
    (mentions_there c.self.inside.limit c.self.inside.names.entries c.args.name.now c.self.invariant c.in-Some.view.now (sym c.in-Some.ensures)))

pub returns-in-None-clause-none : goal.returns-in-None-clause-none
returns-in-None-clause-none c =
    ap is_none c.in-None.ensures
    ∙ no_view_there c.self.inside.limit c.self.inside.names.entries c.args.name.now c.self.invariant
    ∙ ap (λ t. is_none (view_in (entry_of (catalogue_of t).entries c.args.name.now))) c.self.view_is
