use Rattle.std.proofs.Common.{arith}
use Rattle.sqlite_trees.specs.View.{IsClean}
use Rattle.ded_journal.proofs.Kept.{kept_itself, kept_by_undo, no_new_outcome, undone_to, durable_of}
use Rattle.ded_journal.proofs.journal.Journal.roll_back.Goals as goal

pub invariant_of-self : goal.invariant_of-self
invariant_of-self g c =
    let old = g.S.Store.view c.self.inside.store in
    let new = g.S.Store.view c.rollback.new.self in
    let quiet = c.rollback.ensures.quiet in
    let shut = g.met.S.Store.shut_if_dirty c.rollback.new.self in
    let back : IsClean new → IsClean old = λ h. omega (arith, quiet.clean) in
    kept_by_undo old new _ _ _ _ c.self.invariant shut back old (no_new_outcome old new _ _ _ _ c.self.invariant shut back quiet.outcomes) (λ _. kept_itself old) c.rollback.ensures.undone

pub returns-clause-undone : goal.returns-clause-undone
returns-clause-undone g c =
    let old = g.S.Store.view c.self.inside.store in
    let new = g.S.Store.view c.rollback.new.self in
    let quiet = c.rollback.ensures.quiet in
    let shut = g.met.S.Store.shut_if_dirty c.rollback.new.self in
    let back : IsClean new → IsClean old = λ h. omega (arith, quiet.clean) in
    rw (← c.self.view_is) (undone_to old new _ _ _ _ old shut back (λ _. kept_itself old) c.rollback.ensures.undone quiet.closes quiet.counts)

pub returns-clause-durable : goal.returns-clause-durable
returns-clause-durable g c =
    let old = g.S.Store.view c.self.inside.store in
    let new = g.S.Store.view c.rollback.new.self in
    let quiet = c.rollback.ensures.quiet in
    let shut = g.met.S.Store.shut_if_dirty c.rollback.new.self in
    let back : IsClean new → IsClean old = λ h. omega (arith, quiet.clean) in
    let kept = kept_by_undo old new _ _ _ _ c.self.invariant shut back old (no_new_outcome old new _ _ _ _ c.self.invariant shut back quiet.outcomes) (λ _. kept_itself old) c.rollback.ensures.undone in
    durable_of g.S.Store.recovers new _ _ c.rollback.new.self _ _ kept (g.met.S.Store.settled c.rollback.new.self)
