use Rattle.std.proofs.Common.{false, ap}
use Rattle.ded_num.proofs.Tests.{if_ok_by, if_err_by}
use Rattle.ded_relation.specs.Tuples.{AreUpTo}
use Rattle.ded_catalog.specs.Users.{AreCounted}
use Rattle.ded_catalog.proofs.Counting.{counted_altered}
use Rattle.ded_relation.proofs.Results.{either}
use Rattle.ded_catalog.proofs.WithoutUsers.{changes_there, relation_there}
use Rattle.ded_catalog.proofs.table.insert_into.Goals as goal

pub insert-requires : goal.insert-requires
insert-requires c =
    relation_there c.table.inside.entries.entries c.args.table.now.entries c.args.name.now (λ r. AreUpTo r.inserts r.tuples.entries) (ap (λ t. t.entries) c.table.view_is) c.requires

pub invariant_of-table : goal.invariant_of-table
invariant_of-table c =
    either c.insert.result _ _ (AreCounted (λ n. false) c.insert.new.self.entries) c.insert.ensures.ok c.insert.ensures.err
    (λ k h. counted_altered c.table.inside.entries.entries c.insert.new.self.entries c.args.name.now _ h c.table.invariant)
    (λ r h. counted_altered c.table.inside.entries.entries c.insert.new.self.entries c.args.name.now _ h c.table.invariant)

pub returns-clause-ok : goal.returns-clause-ok
returns-clause-ok c =
    if_ok_by c.insert.result _ _ (λ k h. changes_there c.table.inside.entries.entries c.insert.new.self.entries c.args.table.now.entries c.args.name.now _ (ap (λ t. t.entries) c.table.view_is) h) c.insert.ensures.ok

pub returns-clause-err : goal.returns-clause-err
returns-clause-err c =
    if_err_by c.insert.result _ _ (λ r h. changes_there c.table.inside.entries.entries c.insert.new.self.entries c.args.table.now.entries c.args.name.now _ (ap (λ t. t.entries) c.table.view_is) h) c.insert.ensures.err
