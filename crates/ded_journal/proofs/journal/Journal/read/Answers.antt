use Rattle.std.proofs.Common.{arith, sym, ◌∙◌}
use Rattle.std.proofs.lemmas.Option.{slice_get_past}
use Rattle.ded_journal.specs.Statements.{statements_in}
use Rattle.sqlite_catalog.proofs.QuietLemmas.{quiet_then}
use Rattle.sqlite_trees.specs.View.{IsClean}
use Rattle.ded_journal.proofs.Rows.{read_at}
use Rattle.ded_journal.proofs.Kept.{open_of, kept_by_read, kept_by_undo, no_new_outcome, undone_to, excused, shut_gives_up, durable_of}
use Rattle.ded_journal.proofs.journal.Journal.read.Goals as goal

pub returns-then-is_broken-clause-err : goal.returns-then-is_broken-clause-err
returns-then-is_broken-clause-err g c =
    let store = c.self.inside.store in
    let broken = λ (h : IsClean (g.S.Store.view store)). sym (c.is_broken.ensures h) ∙ c.if-is_broken.true in
    rw (← c.self.view_is) (shut_gives_up (g.S.Store.view store) _ _ _ _ _ store c.self.invariant (g.met.S.Store.shut_if_dirty store) broken)

pub returns-then-at-self-clause-ok : goal.returns-then-at-self-clause-ok
returns-then-at-self-clause-ok g c =
    let store = c.self.inside.store in
    let v = g.S.Store.view store in
    let is_open = λ (h : IsClean v). open_of v.is_open v.is_broken (g.met.S.Store.broken_if_shut store) (sym (c.is_broken.ensures h) ∙ c.if-is_broken.false) in
    rw (← c.self.view_is) (λ clean. slice_get_past (statements_in v.trees) c.args.at (omega (arith, (c.self.invariant.counted (is_open clean)).0, c.if-at-self.true)))

pub invariant_of-self : goal.invariant_of-self
invariant_of-self g c =
    let old = g.S.Store.view c.self.inside.store in
    let new = g.S.Store.view c.find_statement.new.store in
    let quiet = c.find_statement.ensures.quiet in
    let shut = g.met.S.Store.shut_if_dirty c.find_statement.new.store in
    let back : IsClean new → IsClean old = λ h. omega (arith, quiet.clean) in
    kept_by_read old new _ _ _ _ c.self.invariant shut back quiet.outcomes c.in-Ok.ensures.same

pub invariant_of-self-in-Err : goal.invariant_of-self-in-Err
invariant_of-self-in-Err g c =
    let old = g.S.Store.view c.self.inside.store in
    let mid = g.S.Store.view c.find_statement.new.store in
    let new = g.S.Store.view c.rollback.new.self in
    let second = c.rollback.ensures.quiet in
    let quiet = quiet_then c.find_statement.ensures.quiet second in
    let shut = g.met.S.Store.shut_if_dirty c.rollback.new.self in
    let back : IsClean new → IsClean old = λ h. omega (arith, quiet.clean) in
    let midway : IsClean new → IsClean mid = λ h. omega (arith, second.clean) in
    kept_by_undo old new _ _ _ _ c.self.invariant shut back mid (no_new_outcome old new _ _ _ _ c.self.invariant shut back quiet.outcomes) (λ h. c.in-Err.ensures.err (midway h)) c.rollback.ensures.undone

pub returns-in-Ok-clause-ok : goal.returns-in-Ok-clause-ok
returns-in-Ok-clause-ok g c =
    let old = g.S.Store.view c.self.inside.store in
    let is_open = λ (h : IsClean (g.S.Store.view c.find_statement.new.store)). open_of old.is_open old.is_broken (g.met.S.Store.broken_if_shut c.self.inside.store) (c.in-Ok.ensures.sound h) in
    λ clean. rw (← c.self.view_is) (read_at (old.trees 0) _ c.args.at _ c.in-Ok.found (c.self.invariant.now (is_open clean)).rows (c.in-Ok.ensures.ok clean))

pub returns-in-Ok-clause-durable : goal.returns-in-Ok-clause-durable
returns-in-Ok-clause-durable g c =
    durable_of g.S.Store.recovers (g.S.Store.view c.find_statement.new.store) _ _ c.find_statement.new.store _ _ (invariant_of-self g c) (g.met.S.Store.settled c.find_statement.new.store)

pub returns-in-Err-clause-err : goal.returns-in-Err-clause-err
returns-in-Err-clause-err g c =
    let old = g.S.Store.view c.self.inside.store in
    let mid = g.S.Store.view c.find_statement.new.store in
    let new = g.S.Store.view c.rollback.new.self in
    let second = c.rollback.ensures.quiet in
    let quiet = quiet_then c.find_statement.ensures.quiet second in
    let shut = g.met.S.Store.shut_if_dirty c.rollback.new.self in
    let back : IsClean new → IsClean old = λ h. omega (arith, quiet.clean) in
    let midway : IsClean new → IsClean mid = λ h. omega (arith, second.clean) in
    rw (← c.self.view_is) (record {
      undone = undone_to old new _ _ _ _ mid shut back (λ h. c.in-Err.ensures.err (midway h)) c.rollback.ensures.undone quiet.closes quiet.counts;
      told = rw c.rollback.ensures.blame c.in-Err.ensures.told;
      cause = excused (g.S.Store.blamed c.self.inside.store) (g.S.Store.blamed c.rollback.new.self) old new (g.S.Store.faults c.self.inside.store) (g.S.Store.faults c.rollback.new.self) c.self.inside.store c.rollback.new.self (g.S.Store.faults c.find_statement.new.store) _ _ c.in-Err.error second.counts c.self.invariant.mended (λ _ h. h) (λ h. c.in-Err.ensures.cause (midway h));
    })

pub returns-in-Err-clause-durable : goal.returns-in-Err-clause-durable
returns-in-Err-clause-durable g c =
    durable_of g.S.Store.recovers (g.S.Store.view c.rollback.new.self) _ _ c.rollback.new.self _ _ (invariant_of-self-in-Err g c) (g.met.S.Store.settled c.rollback.new.self)
