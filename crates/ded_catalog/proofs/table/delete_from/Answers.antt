use Rattle.std.proofs.Common.{◌≡◌, ◌==◌, true, false, ap}
use Rattle.std.specs.List.{list_any}
use Rattle.ded_num.proofs.Tests.{if_ok_by, if_err_by}
use Rattle.ded_relation.specs.Tuples.{AreUpTo}
use Rattle.ded_catalog.specs.Users.{AreCounted}
use Rattle.ded_catalog.proofs.Counting.{counted_altered}
use Rattle.ded_relation.proofs.Results.{either}
use Rattle.ded_catalog.proofs.WithoutUsers.{changes_there, relation_there}
use Rattle.ded_catalog.proofs.table.delete_from.Goals as goal

pub delete-requires : goal.delete-requires
delete-requires c =
    relation_there c.table.inside.entries.entries c.args.table.now.entries c.args.name.now (λ r. AreUpTo r.inserts r.tuples.entries × (list_any (λ t. t.0 == c.args.number) r.tuples.entries ≡ true)) (ap (λ t. t.entries) c.table.view_is) c.requires

pub invariant_of-table : goal.invariant_of-table
invariant_of-table c =
    either c.delete.result _ _ (AreCounted (λ n. false) c.delete.new.self.entries) c.delete.ensures.ok c.delete.ensures.err
    (λ k h. counted_altered c.table.inside.entries.entries c.delete.new.self.entries c.args.name.now _ h c.table.invariant)
    (λ r h. counted_altered c.table.inside.entries.entries c.delete.new.self.entries c.args.name.now _ h c.table.invariant)

pub returns-clause-ok : goal.returns-clause-ok
returns-clause-ok c =
    if_ok_by c.delete.result _ _ (λ k h. changes_there c.table.inside.entries.entries c.delete.new.self.entries c.args.table.now.entries c.args.name.now _ (ap (λ t. t.entries) c.table.view_is) h) c.delete.ensures.ok

pub returns-clause-err : goal.returns-clause-err
returns-clause-err c =
    if_err_by c.delete.result _ _ (λ r h. changes_there c.table.inside.entries.entries c.delete.new.self.entries c.args.table.now.entries c.args.name.now _ (ap (λ t. t.entries) c.table.view_is) h) c.delete.ensures.err
