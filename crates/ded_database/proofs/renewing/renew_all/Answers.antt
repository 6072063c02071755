use Rattle.std.proofs.Common.{◌≡◌, ◌++◌, ◌∷◌, [], true, take, sym, ◌∙◌, subst}
use Rattle.ded_num.proofs.Tests.{all-at}
use Rattle.ded_genrel.proofs.Items.{done_to}
use Rattle.ded_database.specs.Marks.{IsMark}
use Rattle.ded_views.specs.Reaching.{reaches}
use Rattle.ded_database.specs.Changes.{before, after, inserted_tuple}
use Rattle.ded_database.specs.Renewed.{AreRenewed}
use Rattle.ded_database.proofs.NamesOfMarks.{apart_at, marked_at}
use Rattle.ded_database.proofs.Renewal.{all_skip, all_more}
use Rattle.ded_database.proofs.ListsStaying.{has_others}
use Rattle.ded_database.proofs.Under.{nameless}
use Rattle.ded_database.proofs.Views.{mark_reach, changes_relation}
use Rattle.ded_database.proofs.renewing.renew_all.Goals as goal
use Rattle.ded_database.proofs.renewing.renew_all.Goals.{then-reaches+in_ok-renew, else-reaches}

pub renew-requires-clause-new : goal.renew-requires-clause-new
renew-requires-clause-new g c =
    let b = before c.args.change.now in
    let n = c.args.change.now.name.now in
    let m = c.mark-item.result in
    let i = c.loop-mark.mark-index in
    let x = has_others b (after c.args.change.now) n (inserted_tuple c.args.change.now) c.requires.change in
    let k : IsMark b m = all-at (IsMark b) c.args.marks.now i m c.loop-mark-test.true c.mark-item.is c.requires.marks in
    let s : reaches b m.name n ≡ true = sym (mark_reach b n m c.requires.change.formed_before (changes_relation b (after c.args.change.now) n x) k (c.marks_reach.ensures b m n)) ∙ sym c.if-reaches.ensures in
    nameless m.name c.loop-mark.held
    (c.loop-mark.invariant.rest m.name (apart_at c.args.marks.now i m c.requires.apart c.loop-mark-test.true c.mark-item.is)
    ∙ c.requires.gone m.name (marked_at c.args.marks.now i m c.loop-mark-test.true c.mark-item.is) s)

pub loop-mark-preserved : goal.loop-mark-preserved
loop-mark-preserved g c =
    let b = before c.args.change.now in
    let d = after c.args.change.now in
    let n = c.args.change.now.name.now in
    let t = inserted_tuple c.args.change.now in
    let m = c.mark-item.result in
    let i = c.loop-mark.mark-index in
    let done = take i c.args.marks.now in
    let x = has_others b d n t c.requires.change in
    let k : IsMark b m = all-at (IsMark b) c.args.marks.now i m c.loop-mark-test.true c.mark-item.is c.requires.marks in
    let law = mark_reach b n m c.requires.change.formed_before (changes_relation b d n x) k (c.marks_reach.ensures b m n) in
    subst (λ ms. AreRenewed b d n ms t c.args.stale.now c.if-reaches.stale c.args.held.now c.if-reaches.held) (sym (done_to c.args.marks.now i m c.loop-mark-test.true c.mark-item.is))
    (elim c.if-reaches.branch [
      | then-reaches+in_ok-renew w ↦ subst (λ ls. AreRenewed b d n (done ++ m ∷ []) t c.args.stale.now ls c.args.held.now c.if-reaches.held) (sym (w.stale-is ∙ w.renew.ensures.stale))
          (subst (AreRenewed b d n (done ++ m ∷ []) t c.args.stale.now _ c.args.held.now) (sym w.held-is)
          (all_more b d n t c.args.stale.now c.args.held.now done m c.loop-mark.stale c.loop-mark.held w.renew.new.held (sym law ∙ sym w.if-reaches.ensures) (apart_at c.args.marks.now i m c.requires.apart c.loop-mark-test.true c.mark-item.is) c.loop-mark.invariant w.in_ok-renew.ensures.ok))
      | else-reaches w ↦ subst (λ ls. AreRenewed b d n (done ++ m ∷ []) t c.args.stale.now ls c.args.held.now c.if-reaches.held) (sym w.stale-is)
          (subst (AreRenewed b d n (done ++ m ∷ []) t c.args.stale.now _ c.args.held.now) (sym w.held-is)
          (all_skip b d n t c.args.stale.now c.args.held.now done m c.loop-mark.stale c.loop-mark.held (sym law ∙ sym w.if-reaches.ensures) c.loop-mark.invariant))
    ])
