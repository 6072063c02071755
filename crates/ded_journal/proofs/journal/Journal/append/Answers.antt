use Rattle.std.proofs.Common.{arith}
use Rattle.sqlite_catalog.proofs.QuietLemmas.{quiet_then}
use Rattle.sqlite_trees.specs.View.{IsClean}
use Rattle.ded_journal.proofs.Kept.{kept_by_append, kept_by_undo, no_new_outcome, appended, undone_to, excused, unfit, durable_of}
use Rattle.ded_journal.proofs.journal.Journal.append.Goals as goal

pub invariant_of-self : goal.invariant_of-self
invariant_of-self g c =
    let old = g.S.Store.view c.self.inside.store in
    let new = g.S.Store.view c.put_statement.new.store in
    let quiet = c.put_statement.ensures.quiet in
    let shut = g.met.S.Store.shut_if_dirty c.put_statement.new.store in
    let back : IsClean new → IsClean old = λ h. omega (arith, quiet.clean) in
    kept_by_append old new _ _ _ _ c.self.invariant shut back quiet.outcomes (g.met.S.Store.broken_if_shut c.self.inside.store) c.args.text.now c.in-Ok.ensures.few c.in-Ok.ensures.ok

pub invariant_of-self-in-Err : goal.invariant_of-self-in-Err
invariant_of-self-in-Err g c =
    let old = g.S.Store.view c.self.inside.store in
    let mid = g.S.Store.view c.put_statement.new.store in
    let new = g.S.Store.view c.rollback.new.self in
    let second = c.rollback.ensures.quiet in
    let quiet = quiet_then c.put_statement.ensures.quiet second in
    let shut = g.met.S.Store.shut_if_dirty c.rollback.new.self in
    let back : IsClean new → IsClean old = λ h. omega (arith, quiet.clean) in
    let midway : IsClean new → IsClean mid = λ h. omega (arith, second.clean) in
    kept_by_undo old new _ _ _ _ c.self.invariant shut back mid (no_new_outcome old new _ _ _ _ c.self.invariant shut back quiet.outcomes) (λ h. c.in-Err.ensures.err (midway h)) c.rollback.ensures.undone

pub returns-in-Ok-clause-ok : goal.returns-in-Ok-clause-ok
returns-in-Ok-clause-ok g c =
    let old = g.S.Store.view c.self.inside.store in
    let new = g.S.Store.view c.put_statement.new.store in
    let quiet = c.put_statement.ensures.quiet in
    let back : IsClean new → IsClean old = λ h. omega (arith, quiet.clean) in
    rw (← c.self.view_is) (appended old new _ _ _ _ _ _ c.self.invariant back quiet.counts (g.met.S.Store.broken_if_shut c.self.inside.store) c.args.text.now c.in-Ok.ensures.ok)

pub returns-in-Ok-clause-durable : goal.returns-in-Ok-clause-durable
returns-in-Ok-clause-durable g c =
    durable_of g.S.Store.recovers (g.S.Store.view c.put_statement.new.store) _ _ c.put_statement.new.store _ _ (invariant_of-self g c) (g.met.S.Store.settled c.put_statement.new.store)

pub returns-in-Err-clause-err : goal.returns-in-Err-clause-err
returns-in-Err-clause-err g c =
    let old = g.S.Store.view c.self.inside.store in
    let mid = g.S.Store.view c.put_statement.new.store in
    let new = g.S.Store.view c.rollback.new.self in
    let second = c.rollback.ensures.quiet in
    let quiet = quiet_then c.put_statement.ensures.quiet second in
    let shut = g.met.S.Store.shut_if_dirty c.rollback.new.self in
    let back : IsClean new → IsClean old = λ h. omega (arith, quiet.clean) in
    let midway : IsClean new → IsClean mid = λ h. omega (arith, second.clean) in
    rw (← c.self.view_is) (record {
      undone = undone_to old new _ _ _ _ mid shut back (λ h. c.in-Err.ensures.err (midway h)) c.rollback.ensures.undone quiet.closes quiet.counts;
      told = rw c.rollback.ensures.blame c.in-Err.ensures.told;
      cause = excused (g.S.Store.blamed c.self.inside.store) (g.S.Store.blamed c.rollback.new.self) old new (g.S.Store.faults c.self.inside.store) (g.S.Store.faults c.rollback.new.self) c.self.inside.store c.rollback.new.self (g.S.Store.faults c.put_statement.new.store) _ _ c.in-Err.error second.counts c.self.invariant.mended
          (λ clean. unfit old _ _ _ _ c.self.invariant (g.met.S.Store.broken_if_shut c.self.inside.store)) (λ h. c.in-Err.ensures.cause (midway h));
    })

pub returns-in-Err-clause-durable : goal.returns-in-Err-clause-durable
returns-in-Err-clause-durable g c =
    durable_of g.S.Store.recovers (g.S.Store.view c.rollback.new.self) _ _ c.rollback.new.self _ _ (invariant_of-self-in-Err g c) (g.met.S.Store.settled c.rollback.new.self)
