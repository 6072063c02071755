use Rattle.std.proofs.Common.{subst}
use Rattle.std.specs.List.{AllByRecursion}
use Rattle.ded_model.specs.ShortRows.{HasShortRows}
use Rattle.ded_catalog.specs.State.{catalogue_of}
use Rattle.ded_catalog.proofs.Keeping.{short}
use Rattle.ded_catalog.proofs.catalogue.Catalogue.short.Goals as goal

pub returns : goal.returns
returns c =
    subst (λ t. AllByRecursion HasShortRows (catalogue_of t).entries) c.self.view_is
    (short (record { limit = c.self.inside.limit; names = c.self.inside.names.entries; hashing = c.self.inside.names.hashing }) c.self.invariant)
