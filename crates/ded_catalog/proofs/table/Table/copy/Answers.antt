use Rattle.std.proofs.Common.{subst}
use Rattle.ded_catalog.specs.Copies.{AreCopies}
use Rattle.ded_catalog.specs.Users.{without_users}
use Rattle.ded_catalog.proofs.CopiedEntries.{counted_copy, plain_copied}
use Rattle.ded_catalog.proofs.table.Table.copy.Goals as goal

pub invariant_of-result : goal.invariant_of-result
invariant_of-result c = counted_copy c.self.inside.entries.entries c.in_ok-copy.field-0.entries c.in_ok-copy.ensures.copied c.self.invariant

pub returns-clause-copies : goal.returns-clause-copies
returns-clause-copies c =
    subst (λ t. AreCopies t.entries (without_users c.in_ok-copy.field-0.entries)) c.self.view_is
    (plain_copied c.self.inside.entries.entries c.in_ok-copy.field-0.entries c.in_ok-copy.ensures.copied)
