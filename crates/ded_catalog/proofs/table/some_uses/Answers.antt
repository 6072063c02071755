use Rattle.std.proofs.Common.{None, map, sym, ap, ◌∙◌, bytes_eq}
use Rattle.std.specs.List.{list_any}
use Rattle.std.specs.Map.{lookup}
use Rattle.ded_catalog.specs.State.{stored_uses}
use Rattle.ded_catalog.proofs.Counting.{tells_users}
use Rattle.ded_catalog.proofs.WithoutUsers.{found_plain}
use Rattle.ded_catalog.proofs.table.some_uses.Goals as goal

pub returns-in-Some : goal.returns-in-Some
returns-in-Some c =
    tells_users c.table.inside.entries.entries c.args.name.now c.in-Some.entry.now c.in-Some.ensures c.table.invariant
    ∙ ap (λ t. list_any (stored_uses c.args.name.now) (map (λ e. e.1) t.entries)) c.table.view_is

pub returns-in-None : goal.returns-in-None
returns-in-None c =
    sym (c.requires (sym (found_plain (bytes_eq c.args.name.now) c.table.inside.entries.entries None c.in-None.ensures ∙ ap (λ t. lookup (bytes_eq c.args.name.now) t.entries) c.table.view_is)))
