use Rattle.std.proofs.Common.{◌≡◌, ◌++◌, ◌∷◌, [], None, refl, sym, ◌∙◌, subst}
use Rattle.ded_catalog.specs.declared.stored.Stored.TheVariants.{Relation}
use Rattle.ded_model.specs.Entries.{known}
use Rattle.ded_model.specs.Known.{IsNewName}
use Rattle.ded_catalog.specs.Conditions.{IsKept}
use Rattle.ded_catalog.specs.State.{catalogue_of}
use Rattle.ded_catalog.proofs.Calls.{new_name, kept-defined}
use Rattle.ded_relation.proofs.Results.{after}
use Rattle.ded_catalog.proofs.Unused.{unused_there}
use Rattle.ded_catalog.proofs.catalogue.Catalogue.define_at.Goals as goal

pub add-requires-clause-new : goal.add-requires-clause-new
add-requires-clause-new c = new_name c.self.inside.limit c.self.inside.names.entries c.args.name c.self.invariant (subst (λ t. known (catalogue_of t) c.args.name ≡ None) (sym c.self.view_is) c.requires.new.0)

pub add-requires-clause-unused : goal.add-requires-clause-unused
add-requires-clause-unused c =
    unused_there c.self.inside.limit c.self.inside.names.entries c.args.name c.self.invariant
    (new_name c.self.inside.limit c.self.inside.names.entries c.args.name c.self.invariant (subst (λ t. known (catalogue_of t) c.args.name ≡ None) (sym c.self.view_is) c.requires.new.0))

pub invariant_of-self : goal.invariant_of-self
invariant_of-self c =
    after c.add.result (IsKept c.self.inside.limit) c.add.new.table.entries _ _ c.add.ensures.ok c.add.ensures.err
    (subst (λ r. IsKept c.self.inside.limit (c.self.inside.names.entries ++ (c.args.name, Relation r) ∷ [])) (sym (c.in_ok-new.ensures ∙ c.new-relation.ensures))
    (kept-defined c.self.inside.limit c.self.inside.names.entries c.args.name c.self.invariant _ refl c.requires.few (subst (λ t. IsNewName (known (catalogue_of t)) c.args.name) (sym c.self.view_is) c.requires.new)))
    c.self.invariant
