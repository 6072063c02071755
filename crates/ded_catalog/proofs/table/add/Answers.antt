use Rattle.std.proofs.Common.{map, ap, ◌∙◌, bytes_eq}
use Rattle.std.specs.List.{list_any}
use Rattle.std.specs.Map.{lookup}
use Rattle.ded_catalog.specs.State.{stored_uses}
use Rattle.ded_catalog.proofs.Counting.{counted_push}
use Rattle.ded_catalog.proofs.WithoutUsers.{none_plain}
use Rattle.ded_catalog.proofs.table.add.Goals as goal

pub push-requires : goal.push-requires
push-requires c =
    none_plain (bytes_eq c.args.name) c.count.new.entries.entries
    (ap (lookup (bytes_eq c.args.name)) (c.count.ensures.same ∙ ap (λ t. t.entries) c.table.view_is) ∙ c.requires.new)

pub invariant_of-table : goal.invariant_of-table
invariant_of-table c =
    counted_push c.count.new.entries.entries c.push.new.self.entries c.args.name c.args.stored c.in-Ok.ensures.ok
    (ap (λ l. list_any (stored_uses c.args.name) (map (λ e. e.1) l)) (c.count.ensures.same ∙ ap (λ t. t.entries) c.table.view_is) ∙ c.requires.unused)
    c.requires.own c.count.ensures.counted
