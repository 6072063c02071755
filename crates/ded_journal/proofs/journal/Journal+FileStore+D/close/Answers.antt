use Rattle.std.proofs.Common.{◌≡◌, true, IsTrue, arith, sym, subst, ◌∙◌}
use Rattle.sqlite_wal.specs.Recovery.{Image}
use Rattle.sqlite_wal.specs.Files.{outcomes}
use Rattle.sqlite_wal.specs.Reads.{AreClean}
use Rattle.sqlite_trees.specs.View.{View, IsClean}
use Rattle.sqlite_trees.proofs.Doubt.{no_doubt}
use Rattle.sqlite_pool.proofs.StateLemmas.{open_usable, clean_is, may_leave_is}
use Rattle.sqlite_catalog.proofs.QuietLemmas.{quiet_then}
use Rattle.sqlite_store.specs.FileStore.{view, faults, blamed}
use Rattle.sqlite_store.specs.Laws.{settled_at, shut_if_dirty_at}
use Rattle.ded_journal.specs.Statements.{statements_in, HoldsStatements}
use Rattle.ded_journal.specs.Journals.{IsUndoneTo}
use Rattle.ded_journal.specs.Closing.{shown_by}
use Rattle.ded_journal.proofs.Kept.{kept_itself, undone_to}
use Rattle.ded_journal.proofs.Closings.{settled_by_undo, held_alone, still_undone, excused_close, IsSettledOn}
use Rattle.ded_journal.proofs.journal.Journal+FileStore+D.close.Goals as goal

pub returns-in-Ok-clause-moved : goal.returns-in-Ok-clause-moved
returns-in-Ok-clause-moved g c honest =
    let first = c.self.inside.store in
    let before = c.rollback.new.self in
    let last = c.checkpoint.new.self in
    let stays = g.met.D.Disk.seen_may_stay in
    let sure_now = subst (λ p. AreClean g.D.Disk p.0 p.1) c.close.ensures honest in
    let none : IsClean (view last) = no_doubt _ (clean_is last.pool ∙ sure_now) in
    let clean : IsClean (view before) = omega (arith, c.checkpoint.ensures.quiet.clean) in
    let early : IsClean (view first) = omega (arith, c.rollback.ensures.quiet.clean) in
    let same = c.checkpoint.ensures.same (c.in-Ok.ensures.open none) in
    let on : (view before).is_open ≡ true = subst (λ (v : View). v.is_open ≡ true) same (c.in-Ok.ensures.open none) in
    let was_open = (c.rollback.ensures.undone.kept clean).was_open on in
    let settled = subst (λ v. IsSettledOn v (statements_in (view first).committed)) (sym same) (settled_by_undo (view first) (view before) _ _ _ c.self.invariant c.rollback.ensures.undone clean (λ _. early) on) in
    let each = λ (image : Image) (may : outcomes g.D.Disk c.close.result.log c.close.result.db image).
    held_alone last stays _ settled (c.in-Ok.ensures.moved (c.rollback.ensures.logged was_open)) image
    (may_leave_is last.pool image sure_now (subst (λ p. outcomes g.D.Disk p.0 p.1 image) c.close.ensures may)) in
    rw (← c.self.view_is) (record { was_honest = early; was_open = was_open; seen = each _ (stays _, stays _); left = each })

pub returns-in-Ok-clause-usable : goal.returns-in-Ok-clause-usable
returns-in-Ok-clause-usable g c =
    subst (λ p. IsTrue (g.D.Disk.is_usable p.0) × IsTrue (g.D.Disk.is_usable p.1)) (sym c.close.ensures) (open_usable c.checkpoint.new.self.pool c.in-Ok.ensures.still)

pub returns-clause-err : goal.returns-clause-err
returns-clause-err g c =
    let first = c.self.inside.store in
    let before = c.rollback.new.self in
    let last = c.checkpoint.new.self in
    let one = c.rollback.ensures.quiet in
    let two = c.checkpoint.ensures.quiet in
    let both = quiet_then one two in
    let undone : IsUndoneTo (shown_by first) (shown_by before) = undone_to (view first) (view before) (faults first) (faults before) first before (view first) (shut_if_dirty_at before) (λ h. omega (arith, one.clean)) (λ _. kept_itself (view first)) c.rollback.ensures.undone one.closes one.counts in
    rw (← c.self.view_is) (record {
      undone = still_undone (blamed first) (blamed before) (blamed last) (view first) (view before) (view last) (faults first) (faults before) (faults last) first before last undone (shut_if_dirty_at last) (λ h. omega (arith, two.clean)) c.checkpoint.ensures.same both.closes both.counts;
      told = c.in-Err.ensures.told;
      cause = excused_close (blamed first) (blamed before) (blamed last) (view first) (view before) (view last) (faults first) (faults before) (faults last) first before last c.in-Err.error one.counts two.counts (λ h. omega (arith, two.clean)) one.closes (λ h. (c.rollback.ensures.undone.undone h).1) c.in-Err.ensures.cause;
    })

pub returns-clause-crash : goal.returns-clause-crash
returns-clause-crash g c =
    let both = quiet_then c.rollback.ensures.quiet c.checkpoint.ensures.quiet in
    rw (← c.self.view_is) (record { outcomes = both.outcomes; shield = both.shield })

pub returns-clause-kept : goal.returns-clause-kept
returns-clause-kept g c =
    let first = c.self.inside.store in
    let both = quiet_then c.rollback.ensures.quiet c.checkpoint.ensures.quiet in
    rw (← c.self.view_is) (λ on db may. subst (λ x. HoldsStatements x (statements_in (view first).committed)) (sym (settled_at first g.met.D.Disk.seen_may_stay db on (both.outcomes db may))) (c.self.invariant.committed on))
