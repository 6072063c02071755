use Rattle.std.proofs.Common.{◌≡◌, true, is_some, ap, sym, ◌∙◌, subst, true≢false}
use Rattle.ded_sorts.specs.Causes.{insert_refusal, is_relation_with}
use Rattle.ded_model.specs.Entries.{known}
use Rattle.ded_catalog.specs.State.{catalogue_of}
use Rattle.ded_catalog.proofs.Calls.{relation_there, refusal_there}
use Rattle.ded_catalog.proofs.Reading.{relation_found}
use Rattle.ded_catalog.proofs.catalogue.Catalogue.refuses.Goals as goal

pub unreachable-requires : goal.unreachable-requires
unreachable-requires c =
    true≢false
    (sym (relation_there c.self.inside.limit c.self.inside.names.entries c.args.name.now c.self.invariant (subst (λ t. is_relation_with (known (catalogue_of t) c.args.name.now) ≡ true) (sym c.self.view_is) c.requires))
    ∙ ap is_some (sym c.in-None.ensures))

pub returns : goal.returns
returns c =
    c.refusal.ensures
    ∙ sym (refusal_there c.self.inside.limit c.self.inside.names.entries c.args.name.now c.self.invariant c.in-Some.relation.now (relation_found _ _ c.in-Some.ensures))
    ∙ ap (λ t. insert_refusal (catalogue_of t) c.args.name.now) c.self.view_is
