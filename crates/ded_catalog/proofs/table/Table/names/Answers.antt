use Rattle.std.proofs.Common.{map, ap, ◌∙◌}
use Rattle.ded_num.proofs.Tests.{if_ok_by}
use Rattle.ded_catalog.proofs.WithoutUsers.{names_plain}
use Rattle.ded_catalog.proofs.table.Table.names.Goals as goal

pub returns : goal.returns
returns c = if_ok_by c.names.result _ _ (λ ns h. h ∙ names_plain c.self.inside.entries.entries ∙ ap (λ t. map (λ e. e.0) t.entries) c.self.view_is) c.names.ensures
