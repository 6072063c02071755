use Rattle.std.proofs.Common.{IfSome, Some, false, sym, ap, ◌∙◌, subst, bytes_eq}
use Rattle.std.specs.Map.{lookup}
use Rattle.ded_catalog.specs.Users.{AreCounted, HasMentions}
use Rattle.ded_catalog.proofs.Counting.{counted_taken}
use Rattle.ded_catalog.proofs.WithoutUsers.{found_plain, plain_taken, untaken}
use Rattle.ded_catalog.proofs.table.take_out.Goals as goal

pub discount-requires-clause-counted : goal.discount-requires-clause-counted
discount-requires-clause-counted c =
    counted_taken c.table.inside.entries.entries c.remove.new.self.entries c.args.name.now c.in-Some.entry (sym c.in-Some.ensures.value) c.remove.ensures.entries c.remove.ensures.gone c.table.invariant

pub discount-requires-clause-mentions : goal.discount-requires-clause-mentions
discount-requires-clause-mentions c =
    subst (λ o. IfSome o HasMentions)
    (sym (found_plain (bytes_eq c.args.name.now) c.table.inside.entries.entries (Some c.in-Some.entry) c.in-Some.ensures.value ∙ ap (λ t. lookup (bytes_eq c.args.name.now) t.entries) c.table.view_is))
    c.requires

pub invariant_of-table-in_default : goal.invariant_of-table-in_default
invariant_of-table-in_default c =
    subst (AreCounted (λ n. false)) (sym (c.remove.ensures.entries ∙ untaken (bytes_eq c.args.name.now) c.table.inside.entries.entries (sym c.in_default.ensures.value))) c.table.invariant

pub returns-in-Some-clause-entries : goal.returns-in-Some-clause-entries
returns-in-Some-clause-entries c =
    c.discount.ensures.same ∙ plain_taken (bytes_eq c.args.name.now) c.table.inside.entries.entries c.remove.new.self.entries c.args.table.now.entries (ap (λ t. t.entries) c.table.view_is) c.remove.ensures.entries

pub returns-in_default-clause-entries : goal.returns-in_default-clause-entries
returns-in_default-clause-entries c =
    plain_taken (bytes_eq c.args.name.now) c.table.inside.entries.entries c.remove.new.self.entries c.args.table.now.entries (ap (λ t. t.entries) c.table.view_is) c.remove.ensures.entries
