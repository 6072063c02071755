use Rattle.std.proofs.Common.{arith, subst, sym, ◌∙◌, inl, inr}
use Rattle.sqlite_trees.specs.View.{IsClean}
use Rattle.sqlite_trees.proofs.Doubt.{no_doubt}
use Rattle.sqlite_store.specs.FileStore.{view, faults}
use Rattle.sqlite.specs.Files.{AreFoundIn, image_of}
use Rattle.ded_journal.specs.Statements.{IsUnwritten}
use Rattle.ded_journal.proofs.Found.{refuses_since, leaves_as}
use Rattle.ded_journal.proofs.files.Journal+FileStore+D.open_files.Goals as goal

pub returns-in-Ok-adopt-clause-ok : goal.returns-in-Ok-adopt-clause-ok
returns-in-Ok-adopt-clause-ok g c honest =
    let found = c.in-Ok.ensures.found (c.in-Ok-adopt.ensures.clean honest) in
    let on = c.in-Ok-adopt.ensures.ok honest in
    record {
      honest = found.honest;
      finds = record { is_open = on.is_open honest; settled = on.settled honest; db = (view c.in-Ok.conn.store).committed; found = found.reads; holds = found.holds; statements = on.found honest };
    }

pub returns-in-Ok-adopt-clause-shield : goal.returns-in-Ok-adopt-clause-shield
returns-in-Ok-adopt-clause-shield g c honest = c.in-Ok-adopt.ensures.shield (c.in-Ok.ensures.guarded (c.in-Ok-adopt.ensures.clean honest))

pub returns-in-Err-adopt-clause-cause : goal.returns-in-Err-adopt-clause-cause
returns-in-Err-adopt-clause-cause g c clean =
    let later : IsClean (view c.in-Err-adopt.store) = no_doubt _ clean in
    let found = c.in-Ok.ensures.found (c.in-Err-adopt.ensures.falls later) in
    let refused = c.in-Err-adopt.ensures.cause later in
    inr ((view c.in-Ok.conn.store).committed, found.reads, found.holds, (refused.0, refused.1, refuses_since refused.0 0 (faults c.in-Ok.conn.store) (faults c.in-Err-adopt.store) c.in-Err-adopt.refusal (omega arith) refused.2))

pub returns-in-Err-adopt-clause-unharmed : goal.returns-in-Err-adopt-clause-unharmed
returns-in-Err-adopt-clause-unharmed g c clean db may =
    let later : IsClean (view c.in-Err-adopt.store) = no_doubt _ clean in
    let found = c.in-Ok.ensures.found (c.in-Err-adopt.ensures.falls later) in
    elim (c.in-Err-adopt.ensures.unharmed later db may) [
      | inl same ↦ inl (subst (AreFoundIn (image_of g.D.Disk c.args.files)) (sym same) found.reads, λ held h. same ∙ found.holds held h)
      | inr none ↦ inr (none.1, λ held h. subst IsUnwritten (found.holds held h) none.0)
    ]

pub returns-in-Err-clause-cause : goal.returns-in-Err-clause-cause
returns-in-Err-clause-cause g c clean = inl (c.in-Err.error, c.not_opened.ensures, c.in-Err.ensures.cause clean)

pub returns-in-Err-clause-unharmed : goal.returns-in-Err-clause-unharmed
returns-in-Err-clause-unharmed g c clean = leaves_as c.args.files c.in-Err.left (c.in-Err.ensures.unharmed clean)
