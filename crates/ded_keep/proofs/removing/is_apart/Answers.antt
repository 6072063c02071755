use Rattle.std.proofs.Common.{◌≡◌, ◌&&◌, false, List, take, sym, subst, ◌∙◌}
use Rattle.ded_model.specs.Point.{Point}
use Rattle.ded_model.specs.Row.{Atom, tuple_holds}
use Rattle.ded_algebra.specs.Evaluation.{IsMet}
use Rattle.ded_keep.specs.Remaining.{IsApart}
use Rattle.ded_keep.proofs.Covered.{taken_to}
use Rattle.ded_keep.proofs.Leaving.{apart_none, apart_more}
use Rattle.ded_keep.proofs.removing.is_apart.Goals as goal

pub loop-other-init : goal.loop-other-init
loop-other-init g c = apart_none c.args.tuple.now

pub loop-other-preserved : goal.loop-other-preserved
loop-other-preserved g c =
    subst (IsApart c.args.tuple.now) (sym (taken_to c.args.lost.now c.loop-other.other-index c.other-item.result c.loop-other-test.true c.other-item.is))
    (apart_more c.args.tuple.now (take c.loop-other.other-index c.args.lost.now) c.other-item.result (subst (IsMet c.args.tuple.now c.other-item.result) c.in_default.is c.in_ok-meet.ensures) c.loop-other.invariant)

pub loop-other-preserved-then-fix_other_texts : goal.loop-other-preserved-then-fix_other_texts
loop-other-preserved-then-fix_other_texts g c =
    let never : (p : Point) → (tuple_holds c.args.tuple.now p && tuple_holds c.other-item.result p) ≡ false
    = subst (λ (t : List Atom). (p : Point) → (tuple_holds t p && tuple_holds c.other-item.result p) ≡ false) (c.deref.ensures.value ∙ c.tuple.view_is)
    (subst (λ (u : List Atom). (p : Point) → (tuple_holds c.deref.result.now p && tuple_holds u p) ≡ false) (c.deref-in-loop-other.ensures.value ∙ c.other.view_is) (c.fix_other_texts.ensures c.if-fix_other_texts.true)) in
    subst (IsApart c.args.tuple.now) (sym (taken_to c.args.lost.now c.loop-other.other-index c.other-item.result c.loop-other-test.true c.other-item.is))
    (apart_more c.args.tuple.now (take c.loop-other.other-index c.args.lost.now) c.other-item.result (λ p i. never p) c.loop-other.invariant)
