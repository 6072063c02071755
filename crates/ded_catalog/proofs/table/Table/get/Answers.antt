use Rattle.std.proofs.Common.{None, Some, ap, ◌∙◌, bytes_eq}
use Rattle.std.specs.Map.{lookup}
use Rattle.ded_catalog.proofs.WithoutUsers.{found_plain}
use Rattle.ded_catalog.proofs.table.Table.get.Goals as goal

pub returns-in-Some : goal.returns-in-Some
returns-in-Some c =
    found_plain (bytes_eq c.args.name.now) c.self.inside.entries.entries (Some c.in-Some.entry.now) c.in-Some.ensures ∙ ap (λ t. lookup (bytes_eq c.args.name.now) t.entries) c.self.view_is

pub returns-in-None : goal.returns-in-None
returns-in-None c =
    found_plain (bytes_eq c.args.name.now) c.self.inside.entries.entries None c.in-None.ensures ∙ ap (λ t. lookup (bytes_eq c.args.name.now) t.entries) c.self.view_is
