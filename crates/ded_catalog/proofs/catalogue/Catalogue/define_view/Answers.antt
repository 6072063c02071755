use Rattle.std.proofs.Common.{◌≡◌, ◌≤◌, ◌+◌, None, sym, ap, ◌∙◌, subst, arith}
use Rattle.ded_model.specs.Form.{form}
use Rattle.ded_model.specs.Known.{IsAccepted, IsNewName, level_of}
use Rattle.ded_model.specs.Entries.{known}
use Rattle.ded_catalog.specs.Conditions.{IsKept}
use Rattle.ded_catalog.specs.State.{catalogue_of}
use Rattle.ded_catalog.proofs.Calls.{new_name, kept-viewed, level_there}
use Rattle.ded_relation.proofs.Results.{after}
use Rattle.ded_catalog.proofs.Unused.{unspoken, unused_there}
use Rattle.ded_catalog.proofs.catalogue.Catalogue.define_view.Goals as goal

pub overflow_add-view : goal.overflow_add-view
overflow_add-view c =
    let level = level_there c.self.inside.limit c.self.inside.names.entries c.self.invariant (form c.args.f) in
    let low = subst (λ t. level_of (known (catalogue_of t)) (form c.args.f) ≤ 16) (sym c.self.view_is) c.requires.level in
    omega (arith, level, low, c.in-Ok.ensures.level)

pub add-requires-clause-new : goal.add-requires-clause-new
add-requires-clause-new c = new_name c.self.inside.limit c.self.inside.names.entries c.args.name c.self.invariant (subst (λ t. known (catalogue_of t) c.args.name ≡ None) (sym c.self.view_is) c.requires.new.0)

pub add-requires-clause-unused : goal.add-requires-clause-unused
add-requires-clause-unused c =
    unused_there c.self.inside.limit c.self.inside.names.entries c.args.name c.self.invariant
    (new_name c.self.inside.limit c.self.inside.names.entries c.args.name c.self.invariant (subst (λ t. known (catalogue_of t) c.args.name ≡ None) (sym c.self.view_is) c.requires.new.0))

pub add-requires-clause-own : goal.add-requires-clause-own
add-requires-clause-own c = unspoken (known (catalogue_of c.args.self.now)) (form c.args.f) c.args.name c.requires.accepted.known c.requires.new.0

pub invariant_of-self : goal.invariant_of-self
invariant_of-self c =
    after c.add.result (IsKept c.self.inside.limit) c.add.new.table.entries _ _ c.add.ensures.ok c.add.ensures.err
    (kept-viewed c.self.inside.limit c.self.inside.names.entries c.args.name c.self.invariant _
    (subst (λ t. IsNewName (known (catalogue_of t)) c.args.name) (sym c.self.view_is) c.requires.new)
    (subst (λ t. IsAccepted (known (catalogue_of t)) c.args.heading (form c.args.f)) (sym c.self.view_is) c.requires.accepted)
    (subst (λ t. level_of (known (catalogue_of t)) (form c.args.f) ≤ 16) (sym c.self.view_is) c.requires.level)
    (ap (λ l. l + 1) c.in-Ok.ensures.level ∙ level_there c.self.inside.limit c.self.inside.names.entries c.self.invariant (form c.args.f))
    c.requires.goal c.requires.plain c.requires.short c.in-Ok.ensures.mentions)
    c.self.invariant
