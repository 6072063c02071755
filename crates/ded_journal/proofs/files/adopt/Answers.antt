use Rattle.std.proofs.Common.{arith, refl, sym, subst, ◌≡◌, ◌∙◌, true, inl, inr, true≢false}
use Rattle.sqlite_trees.specs.View.{IsClean}
use Rattle.ded_journal.specs.Statements.{IsUnwritten}
use Rattle.ded_journal.specs.Journals.{OpensOn}
use Rattle.ded_journal.proofs.Found.{trees_after, fresh_after, refuses_since}
use Rattle.ded_journal.proofs.files.adopt.Goals as goal

pub returns-then-is_broken-clause-cause : goal.returns-then-is_broken-clause-cause
returns-then-is_broken-clause-cause g c clean =
    let first = g.S.Store.view c.args.conn.store in
    let store = c.into_store-store.result in
    let after = g.S.Store.view store in
    let quiet = c.into_store-store.ensures.quiet in
    let was : IsClean first = omega (arith, quiet.clean) in
    let broken : after.is_broken ≡ true = sym (c.is_broken.ensures clean) ∙ c.if-is_broken.true in (
      record after { trees = first.committed },
      refl,
      elim (quiet.closes clean (c.requires was)) [ inl still ↦ absurd (true≢false (sym broken ∙ (c.into_store-store.ensures.undone.undone still).1)) | inr fault ↦ fault ],
    )

pub returns-then-is_broken-clause-unharmed : goal.returns-then-is_broken-clause-unharmed
returns-then-is_broken-clause-unharmed g c clean db may =
    let quiet = c.into_store-store.ensures.quiet in
    inl (g.met.S.Store.settled c.args.conn.store db (c.requires (omega (arith, quiet.clean))) (quiet.outcomes db may))

pub over-requires : goal.over-requires
over-requires g c clean =
    let store = c.into_store-store.result in
    fresh_after (g.S.Store.view c.args.conn.store) (g.S.Store.view store) c.into_store-store.ensures.undone clean (g.met.S.Store.broken_if_shut store)
    (sym (c.is_broken.ensures clean) ∙ c.if-is_broken.false) (c.into_store-store.ensures.numbered clean)

pub returns-in-Ok-clause-ok : goal.returns-in-Ok-clause-ok
returns-in-Ok-clause-ok g c honest =
    let store = c.into_store-store.result in
    let clean = c.in-Ok.ensures.clean honest in
    let same = trees_after (g.S.Store.view c.args.conn.store) (g.S.Store.view store) c.into_store-store.ensures.undone clean (g.met.S.Store.broken_if_shut store)
    (sym (c.is_broken.ensures clean) ∙ c.if-is_broken.false) in
    subst (λ db. OpensOn db c.in-Ok.journal) same c.in-Ok.ensures.ok

pub returns-in-Ok-clause-shield : goal.returns-in-Ok-clause-shield
returns-in-Ok-clause-shield g c h = c.in-Ok.ensures.shield (c.into_store-store.ensures.quiet.shield h)

pub returns-in-Err-clause-cause : goal.returns-in-Err-clause-cause
returns-in-Err-clause-cause g c later =
    let store = c.into_store-store.result in
    let clean = c.in-Err.ensures.falls later in
    let same = trees_after (g.S.Store.view c.args.conn.store) (g.S.Store.view store) c.into_store-store.ensures.undone clean (g.met.S.Store.broken_if_shut store)
    (sym (c.is_broken.ensures clean) ∙ c.if-is_broken.false) in
    (g.S.Store.view store, same, refuses_since (g.S.Store.view store) _ (g.S.Store.faults store) _ c.in-Err.failed.0 c.into_store-store.ensures.quiet.counts (c.in-Err.ensures.cause later))

pub returns-in-Err-clause-unharmed : goal.returns-in-Err-clause-unharmed
returns-in-Err-clause-unharmed g c later db may =
    let quiet = c.into_store-store.ensures.quiet in
    let store = c.into_store-store.result in
    let clean = c.in-Err.ensures.falls later in
    let same = trees_after (g.S.Store.view c.args.conn.store) (g.S.Store.view store) c.into_store-store.ensures.undone clean (g.met.S.Store.broken_if_shut store)
    (sym (c.is_broken.ensures clean) ∙ c.if-is_broken.false) in
    elim (c.in-Err.ensures.unharmed later db may) [ inl before ↦ inl (g.met.S.Store.settled c.args.conn.store db (c.requires (omega (arith, quiet.clean))) (quiet.outcomes db before)) | inr none ↦ inr (subst IsUnwritten same none.0, none.1) ]
