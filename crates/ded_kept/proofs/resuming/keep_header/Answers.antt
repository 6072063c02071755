use Rattle.std.proofs.Common.{refl, sym, subst, arith, IfErr, ◌∷◌, []}
use Rattle.std.proofs.lemmas.Result.{err_from_is_err_and}
use Rattle.ded_recording.specs.Saving.{StaysUnsaved}
use Rattle.ded_recording.proofs.Settled.{added_none, added_next, stays_unadded, stays_uncommitted, saved_all, if_done, if_failed}
use Rattle.ded_kept.specs.Defining.{header_line}
use Rattle.ded_kept.proofs.resuming.keep_header.Goals as goal

pub returns-in_err-append-clause-unsaved : goal.returns-in_err-append-clause-unsaved
returns-in_err-append-clause-unsaved g c =
    let p = err_from_is_err_and c.from_residual.result c.from_residual.ensures.1 in
    subst (λ r. IfErr r (StaysUnsaved g.S.Store.recovers g.S.Store.is_shielded c.args.journal.now c.append.new.self (header_line ∷ []))) (sym p.1)
    (subst (λ e. StaysUnsaved g.S.Store.recovers g.S.Store.is_shielded c.args.journal.now c.append.new.self (header_line ∷ []) e) (sym p.2)
    (stays_unadded g.S.Store.recovers g.S.Store.is_shielded c.args.journal.now c.args.journal.now c.append.new.self (header_line ∷ []) 0 header_line _ refl (added_none g.S.Store.recovers g.S.Store.is_shielded c.args.journal.now) c.in_err-append.ensures.err c.in_err-append.ensures.crash))

pub returns-clause-saved : goal.returns-clause-saved
returns-clause-saved g c =
    if_done g.S.Store.recovers g.S.Store.is_shielded c.commit.result _ _ c.commit.ensures.ok
    (λ l. saved_all g.S.Store.recovers g.S.Store.is_shielded c.args.journal.now c.append.new.self c.commit.new.self (header_line ∷ []) 1 1 refl (omega arith)
    (added_next g.S.Store.recovers g.S.Store.is_shielded c.args.journal.now c.args.journal.now c.append.new.self (header_line ∷ []) 0 header_line refl (added_none g.S.Store.recovers g.S.Store.is_shielded c.args.journal.now) c.in_ok-append.ensures.ok c.in_ok-append.ensures.crash c.in_ok-append.ensures.durable)
    l c.commit.ensures.crash c.commit.ensures.durable)

pub returns-clause-unsaved : goal.returns-clause-unsaved
returns-clause-unsaved g c =
    if_failed g.S.Store.recovers g.S.Store.is_shielded c.commit.result _ _ c.commit.ensures.err
    (λ e up. stays_uncommitted g.S.Store.recovers g.S.Store.is_shielded c.args.journal.now c.append.new.self c.commit.new.self (header_line ∷ []) 1 1 refl (omega arith)
    (added_next g.S.Store.recovers g.S.Store.is_shielded c.args.journal.now c.args.journal.now c.append.new.self (header_line ∷ []) 0 header_line refl (added_none g.S.Store.recovers g.S.Store.is_shielded c.args.journal.now) c.in_ok-append.ensures.ok c.in_ok-append.ensures.crash c.in_ok-append.ensures.durable)
    e up c.commit.ensures.crash)
