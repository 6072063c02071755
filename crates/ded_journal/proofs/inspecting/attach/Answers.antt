use Rattle.std.proofs.Common.{arith}
use Rattle.sqlite_trees.specs.View.{IsClean}
use Rattle.ded_journal.proofs.Found.{kept_as_found, begun_as_found}
use Rattle.ded_journal.proofs.inspecting.attach.Goals as goal

pub returns-in-Some-clause-kept : goal.returns-in-Some-clause-kept
returns-in-Some-clause-kept g c =
    let first = c.args.store.now in
    let store = c.count.new.store in
    let new = g.S.Store.view store in
    let back : IsClean new → IsClean (g.S.Store.view first) = λ h. omega (arith, c.count.ensures.quiet.clean) in
    kept_as_found new (g.S.Store.recovers store) (g.met.S.Store.shut_if_dirty store) (g.met.S.Store.settled store) (g.S.Store.view first) (g.met.S.Store.broken_if_shut first) back c.requires.fresh
    (g.met.S.Store.unaltered first) c.in_ok-found.ensures.same (λ h. (c.in_ok-is_listed.ensures h).0 c.if-not-branch.false) c.requires.stamped c.in-Some.found
    (λ h. rw c.in-Some.is at (c.in_ok-found.ensures.ok h)) (rw c.in-Some.is at c.in_ok-found.ensures.few)

pub returns-in-Some-clause-ok : goal.returns-in-Some-clause-ok
returns-in-Some-clause-ok g c =
    let first = c.args.store.now in
    let store = c.count.new.store in
    let new = g.S.Store.view store in
    let back : IsClean new → IsClean (g.S.Store.view first) = λ h. omega (arith, c.count.ensures.quiet.clean) in
    begun_as_found new (g.S.Store.recovers store) (g.met.S.Store.shut_if_dirty store) (g.met.S.Store.settled store) (g.S.Store.view first) (g.met.S.Store.broken_if_shut first) back c.requires.fresh
    (g.met.S.Store.unaltered first) c.in_ok-found.ensures.same (λ h. (c.in_ok-is_listed.ensures h).0 c.if-not-branch.false) c.requires.stamped c.in-Some.found
    (λ h. rw c.in-Some.is at (c.in_ok-found.ensures.ok h))
