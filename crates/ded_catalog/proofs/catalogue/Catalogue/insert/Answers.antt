use Rattle.std.proofs.Common.{◌≡◌, ◌≤◌, true, None, ap, sym, ◌∙◌, subst}
use Rattle.std.specs.Option.{unwrap_or}
use Rattle.ded_num.proofs.Tests.{if_ok_by, if_err_by}
use Rattle.ded_model.specs.declared.command.Refusal.TheVariants.{Memory}
use Rattle.ded_model.specs.Known.{IsTupleOver}
use Rattle.ded_sorts.specs.Causes.{insert_refusal, is_relation_with}
use Rattle.ded_sorts.specs.Changes.{Inserts}
use Rattle.ded_model.specs.Entries.{known, columns_in}
use Rattle.ded_relation.specs.Relations.{Relation}
use Rattle.ded_catalog.specs.State.{catalogue_of}
use Rattle.ded_catalog.proofs.Calls.{numbers_there, refusal_there, kept-pushed, kept-same, inserts, same_catalogue}
use Rattle.ded_catalog.proofs.Lookups.{relation_changed}
use Rattle.ded_relation.proofs.Results.{either, on_err}
use Rattle.ded_catalog.proofs.catalogue.Catalogue.insert.Goals as goal

pub insert_into-requires : goal.insert_into-requires
insert_into-requires c =
    numbers_there c.self.inside.limit c.self.inside.names.entries c.args.name.now c.self.invariant (subst (λ t. is_relation_with (known (catalogue_of t) c.args.name.now) ≡ true) (sym c.self.view_is) c.requires.relation)

pub invariant_of-self : goal.invariant_of-self
invariant_of-self c =
    either c.insert_into.result _ _ _ c.insert_into.ensures.ok c.insert_into.ensures.err
    (λ k h. kept-pushed c.self.inside.limit c.self.inside.names.entries c.args.name.now c.self.invariant h.old h.was _ h.new h.is c.args.t k h.so.0 h.so.1
    (subst (λ t. IsTupleOver (columns_in (catalogue_of t) c.args.name.now) c.args.t) (sym c.self.view_is) c.requires.over) c.requires.short)
    (λ r h. kept-same c.self.inside.limit c.self.inside.names.entries c.args.name.now c.self.invariant h.old h.was _ h.new h.is h.so.0)

pub returns-clause-ok : goal.returns-clause-ok
returns-clause-ok c =
    if_ok_by c.insert_into.result _ _
    (λ k h. subst (λ t. Inserts (catalogue_of t) (catalogue_of (record { limit = c.self.inside.limit; names = c.insert_into.new.table.entries; hashing = c.insert_into.new.table.hashing })) c.args.name.now c.args.t k) c.self.view_is
    (inserts c.self.inside.limit c.self.inside.names.entries c.args.name.now c.self.invariant h.old h.was _ h.new h.is c.args.t k h.so.0))
    c.insert_into.ensures.ok

pub returns-clause-settled : goal.returns-clause-settled
returns-clause-settled c =
    if_ok_by c.insert_into.result _ _
    (λ k h r is. subst (λ (x : Relation). x.reaches.loose ≤ 32) (relation_changed c.args.name.now c.self.inside.names.entries _ h.old h.new r h.was h.is is) h.so.0.settled)
    c.insert_into.ensures.ok

pub returns-clause-room : goal.returns-clause-room
returns-clause-room c =
    if_ok_by c.insert_into.result _ _
    (λ k h. subst (λ t. insert_refusal (catalogue_of t) c.args.name.now ≡ None) c.self.view_is
    (refusal_there c.self.inside.limit c.self.inside.names.entries c.args.name.now c.self.invariant h.old h.was ∙ h.so.1))
    c.insert_into.ensures.ok

pub returns-clause-cause : goal.returns-clause-cause
returns-clause-cause c =
    if_err_by c.insert_into.result _ _
    (λ r h. subst (λ t. r ≡ unwrap_or (insert_refusal (catalogue_of t) c.args.name.now) Memory) c.self.view_is
    (h.so.1 ∙ ap (λ o. unwrap_or o Memory) (sym (refusal_there c.self.inside.limit c.self.inside.names.entries c.args.name.now c.self.invariant h.old h.was))))
    c.insert_into.ensures.err

pub returns-clause-err : goal.returns-clause-err
returns-clause-err c =
    on_err c.insert_into.result _ _
    (λ r h. same_catalogue c.self.inside.limit c.self.inside.names.entries c.args.name.now c.self.invariant h.old h.was _ h.new h.is h.so.0 ∙ ap catalogue_of c.self.view_is)
    c.insert_into.ensures.err
