use Rattle.std.proofs.Common.{map, ap, ◌∙◌}
use Rattle.ded_num.proofs.Tests.{if_ok_by}
use Rattle.ded_model.specs.Catalogue.{entry_name}
use Rattle.ded_catalog.specs.State.{catalogue_of}
use Rattle.ded_catalog.proofs.Lookups.{names-forms}
use Rattle.ded_catalog.proofs.catalogue.Catalogue.names.Goals as goal

pub returns : goal.returns
returns c = if_ok_by c.names.result _ _ (λ ns h. h ∙ names-forms c.self.inside.names.entries ∙ ap (λ t. map entry_name (catalogue_of t).entries) c.self.view_is) c.names.ensures
