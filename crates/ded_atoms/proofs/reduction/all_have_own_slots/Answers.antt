use Rattle.std.proofs.Common.{◌∙◌, subst}
use Rattle.ded_model.specs.Normal.{IsNormalTuple}
use Rattle.ded_atoms.specs.Own.{HaveOwnSlots}
use Rattle.ded_atoms.proofs.Reducing.{own_more, own_done}
use Rattle.ded_atoms.proofs.reduction.all_have_own_slots.Goals as goal

pub loop-tuple-preserved : goal.loop-tuple-preserved
loop-tuple-preserved c =
    let own = subst HaveOwnSlots (c.deref.ensures.value ∙ c.tuple.view_is) (c.have_own_slots.ensures c.if-not-have_own_slots.false) in
    own_more c.args.tuples.now c.loop-tuple.tuple-index c.tuple-item.result c.loop-tuple-test.true c.tuple-item.is (subst IsNormalTuple c.tuple.view_is c.tuple.invariant, own) c.loop-tuple.invariant

pub returns : goal.returns
returns c = λ e. own_done c.args.tuples.now c.loop-tuple.tuple-index c.loop-tuple-test.false c.loop-tuple.invariant
