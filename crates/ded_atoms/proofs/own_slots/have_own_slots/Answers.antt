use Rattle.std.proofs.Common.{◌≡◌, suc, take, drop, get_or, below_more, arith}
use Rattle.ded_model.specs.Row.{Atom}
use Rattle.ded_atoms.specs.Own.{HasOwnSlot}
use Rattle.ded_atoms.proofs.OwnSlots.{own_at_each, own_here}
use Rattle.ded_atoms.proofs.own_slots.have_own_slots.Goals as goal

pub loop-index-preserved : goal.loop-index-preserved
loop-index-preserved c =
    below_more (λ k. (a : Atom) → a ≡ get_or c.args.atoms.now k a → HasOwnSlot (take k c.args.atoms.now) a (drop (suc k) c.args.atoms.now)) c.loop-index.index c.loop-index.invariant
    (own_here c.args.atoms.now c.loop-index.index c.index-atoms-index.result c.loop-index-test.true c.index-atoms-index.is (c.has_own_slot.ensures c.if-not-has_own_slot.false))

pub returns : goal.returns
returns c = λ e. own_at_each c.args.atoms.now (λ k lt. c.loop-index.invariant k (omega (arith, lt, c.loop-index-test.false)))
