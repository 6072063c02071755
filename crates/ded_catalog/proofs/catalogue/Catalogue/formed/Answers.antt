use Rattle.std.proofs.Common.{subst}
use Rattle.ded_model.specs.Known.{IsWellFormed}
use Rattle.ded_catalog.specs.State.{catalogue_of}
use Rattle.ded_catalog.proofs.Keeping.{formed}
use Rattle.ded_catalog.proofs.catalogue.Catalogue.formed.Goals as goal

pub returns : goal.returns
returns c = subst (λ t. IsWellFormed (catalogue_of t)) c.self.view_is (formed (record { limit = c.self.inside.limit; names = c.self.inside.names.entries; hashing = c.self.inside.names.hashing }) c.self.invariant)
