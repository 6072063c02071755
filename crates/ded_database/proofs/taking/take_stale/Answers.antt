use Rattle.std.proofs.Common.{◌≡◌, ◌++◌, ◌∷◌, [], true, take, sym, ◌∙◌, subst}
use Rattle.ded_num.proofs.Tests.{all-at}
use Rattle.ded_catalog.specs.State.{catalogue_of}
use Rattle.ded_genrel.proofs.Items.{done_to}
use Rattle.ded_database.specs.Marks.{IsMark}
use Rattle.ded_views.specs.Reaching.{reaches}
use Rattle.ded_database.specs.Renewed.{AreLeft, AreTaken}
use Rattle.ded_database.proofs.NamesOfMarks.{apart_at}
use Rattle.ded_database.proofs.Removal.{left_more, taken_skip, taken_more}
use Rattle.ded_database.proofs.Under.{nameless}
use Rattle.ded_database.proofs.Views.{mark_reach}
use Rattle.ded_database.proofs.taking.take_stale.Goals as goal
use Rattle.ded_database.proofs.taking.take_stale.Goals.{then-reaches+in_ok-take_one, else-reaches}

pub take_one-requires : goal.take_one-requires
take_one-requires c = record {
  new = nameless c.mark-item.result.name c.loop-mark.stale
      (c.loop-mark.invariant.apart c.mark-item.result.name (apart_at c.args.marks.now c.loop-mark.mark-index c.mark-item.result c.requires.apart c.loop-mark-test.true c.mark-item.is));
}

pub returns-in_err-take_one-clause-left : goal.returns-in_err-take_one-clause-left
returns-in_err-take_one-clause-left c =
    let cat = catalogue_of c.args.catalogue.now in
    let m = c.mark-item.result in
    let k : IsMark cat m = all-at (IsMark cat) c.args.marks.now c.loop-mark.mark-index m c.loop-mark-test.true c.mark-item.is c.requires.marks in
    let s : reaches cat m.name c.args.name.now ≡ true = sym (mark_reach cat c.args.name.now m c.formed.ensures c.requires.relation k (c.marks_reach.ensures cat m c.args.name.now)) ∙ sym c.if-reaches.ensures in
    subst (AreLeft cat c.args.name.now c.args.held.now) (sym c.take_one.ensures.held) (left_more cat c.args.name.now m.name c.args.held.now c.loop-mark.held s c.loop-mark.invariant.left)

pub loop-mark-preserved : goal.loop-mark-preserved
loop-mark-preserved c =
    let cat = catalogue_of c.args.catalogue.now in
    let n = c.args.name.now in
    let m = c.mark-item.result in
    let i = c.loop-mark.mark-index in
    let done = take i c.args.marks.now in
    let k : IsMark cat m = all-at (IsMark cat) c.args.marks.now i m c.loop-mark-test.true c.mark-item.is c.requires.marks in
    let law = mark_reach cat n m c.formed.ensures c.requires.relation k (c.marks_reach.ensures cat m n) in
    let old = c.args.held.now in
    subst (λ ms. AreTaken cat n ms old c.if-reaches.held c.if-reaches.stale) (sym (done_to c.args.marks.now i m c.loop-mark-test.true c.mark-item.is))
    (elim c.if-reaches.branch [
      | then-reaches+in_ok-take_one w ↦ subst (λ hs. AreTaken cat n (done ++ m ∷ []) old hs c.if-reaches.stale) (sym (w.held-is ∙ w.take_one.ensures.held))
          (subst (AreTaken cat n (done ++ m ∷ []) old _) (sym (w.stale-is ∙ w.in_ok-take_one.ensures.stale))
          (taken_more cat n done m old c.loop-mark.held c.loop-mark.stale (sym law ∙ sym w.if-reaches.ensures) (apart_at c.args.marks.now i m c.requires.apart c.loop-mark-test.true c.mark-item.is) c.loop-mark.invariant))
      | else-reaches w ↦ subst (λ hs. AreTaken cat n (done ++ m ∷ []) old hs c.if-reaches.stale) (sym w.held-is)
          (subst (AreTaken cat n (done ++ m ∷ []) old _) (sym w.stale-is)
          (taken_skip cat n done m old c.loop-mark.held c.loop-mark.stale (sym law ∙ sym w.if-reaches.ensures) c.loop-mark.invariant))
    ])
