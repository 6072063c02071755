use Rattle.std.proofs.Common.{◌≤◌, ap, sym, ◌∙◌, length, refl, subst}
use Rattle.ded_model.specs.Known.{columns_with}
use Rattle.ded_model.specs.Entries.{known}
use Rattle.ded_catalog.specs.State.{catalogue_of}
use Rattle.ded_catalog.proofs.Calls.{is_known, few_known}
use Rattle.ded_catalog.proofs.catalogue.names.CatalogueNames.known.Goals as goal

pub returns-clause-value : goal.returns-clause-value
returns-clause-value c =
    c.known_of.ensures ∙ sym (is_known c.self.inside.limit c.self.inside.names.entries c.args.name.now c.self.invariant) ∙ ap (λ t. known (catalogue_of t) c.args.name.now) c.self.view_is

pub returns-clause-few : goal.returns-clause-few
returns-clause-few c =
    subst (λ o. length (columns_with o) ≤ 16) (sym c.known_of.ensures) (few_known c.self.inside.limit c.self.inside.names.entries c.args.name.now c.self.invariant _ refl)
