use Rattle.std.proofs.Common.{ap, ◌∙◌, bytes_eq}
use Rattle.std.specs.Map.{lookup}
use Rattle.ded_catalog.proofs.WithoutUsers.{taken}
use Rattle.ded_catalog.proofs.entries.remove_from.Goals as goal

pub returns-clause-gone : goal.returns-clause-gone
returns-clause-gone c =
    ap (λ l. lookup (bytes_eq c.args.name.now) l.entries) c.pop.ensures.entries ∙ taken c.args.name.now c.args.linked.now.entries c.len.ensures.valid.0
