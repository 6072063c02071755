use Rattle.std.proofs.Common.{ap, ◌∙◌}
use Rattle.ded_catalog.specs.State.{catalogue_of}
use Rattle.ded_catalog.proofs.Copies.{kept_copy, forms_copy}
use Rattle.ded_catalog.proofs.catalogue.Catalogue.copy.Goals as goal

pub invariant_of-result : goal.invariant_of-result
invariant_of-result c = kept_copy c.self.inside.limit c.self.inside.names.entries c.in_ok-copy.field-0.entries c.in_ok-copy.ensures.copies c.self.invariant

pub returns-clause-copied : goal.returns-clause-copied
returns-clause-copied c =
    ap (λ l. record { limit = c.self.inside.limit; entries = l }) (forms_copy c.self.inside.names.entries c.in_ok-copy.field-0.entries c.in_ok-copy.ensures.copies)
    ∙ ap catalogue_of c.self.view_is
