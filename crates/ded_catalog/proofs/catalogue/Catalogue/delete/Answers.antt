use Rattle.std.proofs.Common.{◌≡◌, ◌==◌, true, ap, sym, ◌∙◌, subst}
use Rattle.std.specs.List.{list_any}
use Rattle.ded_sorts.specs.Changes.{Deletes}
use Rattle.ded_model.specs.Entries.{tuples_in}
use Rattle.ded_catalog.specs.State.{catalogue_of}
use Rattle.ded_catalog.proofs.Calls.{tuple_there, kept-removed, kept-same, deletes, same_catalogue}
use Rattle.ded_relation.proofs.Results.{either, on_answer, on_err}
use Rattle.ded_catalog.proofs.catalogue.Catalogue.delete.Goals as goal

pub delete_from-requires : goal.delete_from-requires
delete_from-requires c =
    tuple_there c.self.inside.limit c.self.inside.names.entries c.args.name.now c.self.invariant c.args.number (subst (λ t. list_any (λ x. x.0 == c.args.number) (tuples_in (catalogue_of t) c.args.name.now) ≡ true) (sym c.self.view_is) c.requires)

pub invariant_of-self : goal.invariant_of-self
invariant_of-self c =
    either c.delete_from.result _ _ _ c.delete_from.ensures.ok c.delete_from.ensures.err
    (λ k h. kept-removed c.self.inside.limit c.self.inside.names.entries c.args.name.now c.self.invariant h.old h.was _ h.new h.is c.args.number h.so)
    (λ r h. kept-same c.self.inside.limit c.self.inside.names.entries c.args.name.now c.self.invariant h.old h.was _ h.new h.is h.so)

pub returns-clause-ok : goal.returns-clause-ok
returns-clause-ok c =
    on_answer c.delete_from.result _ _
    (λ k h. subst (λ t. Deletes (catalogue_of t) (catalogue_of (record { limit = c.self.inside.limit; names = c.delete_from.new.table.entries; hashing = c.delete_from.new.table.hashing })) c.args.name.now c.args.number) c.self.view_is
    (deletes c.self.inside.limit c.self.inside.names.entries c.args.name.now c.self.invariant h.old h.was _ h.new h.is c.args.number h.so))
    c.delete_from.ensures.ok

pub returns-clause-err : goal.returns-clause-err
returns-clause-err c =
    on_err c.delete_from.result _ _
    (λ r h. same_catalogue c.self.inside.limit c.self.inside.names.entries c.args.name.now c.self.invariant h.old h.was _ h.new h.is h.so ∙ ap catalogue_of c.self.view_is)
    c.delete_from.ensures.err
