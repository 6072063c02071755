use Rattle.std.proofs.Common.{◌<◌, ◌≤◌, subst}
use Rattle.ded_database.specs.Lost.{IsOwnSlot}
use Rattle.ded_database.proofs.OwnSlots.{own_none, own_more, own_all}
use Rattle.ded_database.proofs.arguments.own_slots.Goals as goal

pub loop-i-init : goal.loop-i-init
loop-i-init c = own_none c.args.columns.now c.args.places.now c.in_ok-slots.slots.items c.in_ok-slots.ensures.items

pub loop-i-preserved : goal.loop-i-preserved
loop-i-preserved c =
    own_more c.args.columns.now c.args.places.now c.loop-i.i c.loop-i.slots.items c.push.new.self.items c.index-columns-i.result c.index-places-i.result c.in-Some.slot c.loop-i-test.true
    (subst (λ k. c.loop-i.i < k) c.if-places-columns.false c.loop-i-test.true) c.index-places-i.is c.index-columns-i.is (subst (λ ss. IsOwnSlot c.index-columns-i.result c.index-places-i.result ss c.in-Some.slot) c.deref.ensures.value c.in-Some.ensures)
    c.in_ok-push-in-Some.ensures.items c.loop-i.invariant

pub returns : goal.returns
returns c = own_all c.args.columns.now c.args.places.now c.loop-i.i c.loop-i.slots.items c.loop-i-test.false (subst (λ k. k ≤ c.loop-i.i) c.if-places-columns.false c.loop-i-test.false) c.loop-i.invariant
