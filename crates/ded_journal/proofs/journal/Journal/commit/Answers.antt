use Rattle.std.proofs.Common.{arith}
use Rattle.sqlite_trees.specs.View.{IsClean}
use Rattle.ded_journal.proofs.Kept.{kept_itself, kept_by_undo, kept_by_commit, found_after_commit, undone_to, excused, durable_of}
use Rattle.ded_journal.proofs.journal.Journal.commit.Goals as goal

pub invariant_of-self : goal.invariant_of-self
invariant_of-self g c =
    let old = g.S.Store.view c.self.inside.store in
    let new = g.S.Store.view c.commit.new.self in
    let made = c.commit.ensures in
    let shut = g.met.S.Store.shut_if_dirty c.commit.new.self in
    let broken = g.met.S.Store.broken_if_shut c.self.inside.store in
    let back : IsClean new → IsClean old = λ h. omega (arith, made.clean) in
    kept_by_commit old new _ _ _ _ c.self.invariant shut back broken (found_after_commit old new _ _ _ _ c.self.invariant shut back broken made.crash) c.in-Ok.ensures.ok

pub invariant_of-self-in-Err : goal.invariant_of-self-in-Err
invariant_of-self-in-Err g c =
    let old = g.S.Store.view c.self.inside.store in
    let new = g.S.Store.view c.commit.new.self in
    let made = c.commit.ensures in
    let shut = g.met.S.Store.shut_if_dirty c.commit.new.self in
    let broken = g.met.S.Store.broken_if_shut c.self.inside.store in
    let back : IsClean new → IsClean old = λ h. omega (arith, made.clean) in
    kept_by_undo old new _ _ _ _ c.self.invariant shut back old (found_after_commit old new _ _ _ _ c.self.invariant shut back broken made.crash) (λ _. kept_itself old) c.in-Err.ensures.err

pub returns-in-Ok-clause-durable : goal.returns-in-Ok-clause-durable
returns-in-Ok-clause-durable g c =
    durable_of g.S.Store.recovers (g.S.Store.view c.commit.new.self) _ _ c.commit.new.self _ _ (invariant_of-self g c) (g.met.S.Store.settled c.commit.new.self)

pub returns-in-Err-clause-err : goal.returns-in-Err-clause-err
returns-in-Err-clause-err g c =
    let old = g.S.Store.view c.self.inside.store in
    let new = g.S.Store.view c.commit.new.self in
    let made = c.commit.ensures in
    let shut = g.met.S.Store.shut_if_dirty c.commit.new.self in
    let back : IsClean new → IsClean old = λ h. omega (arith, made.clean) in
    rw (← c.self.view_is) (record {
      undone = undone_to old new _ _ _ _ old shut back (λ _. kept_itself old) c.in-Err.ensures.err made.open made.counts;
      told = c.in-Err.ensures.told;
      cause = excused (g.S.Store.blamed c.self.inside.store) (g.S.Store.blamed c.commit.new.self) old new (g.S.Store.faults c.self.inside.store) (g.S.Store.faults c.commit.new.self) c.self.inside.store c.commit.new.self (g.S.Store.faults c.commit.new.self) _ _ c.in-Err.error (omega arith) c.self.invariant.mended (λ _ h. h) c.in-Err.ensures.cause;
    })

pub returns-in-Err-clause-durable : goal.returns-in-Err-clause-durable
returns-in-Err-clause-durable g c =
    durable_of g.S.Store.recovers (g.S.Store.view c.commit.new.self) _ _ c.commit.new.self _ _ (invariant_of-self-in-Err g c) (g.met.S.Store.settled c.commit.new.self)
