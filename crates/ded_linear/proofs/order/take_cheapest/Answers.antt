use Rattle.std.proofs.Common.{◌<◌, List, length, subst}
use Rattle.ded_model.specs.declared.slot.Slot.{Slot}
use Rattle.ded_linear.proofs.SlotLists.{taken}
use Rattle.ded_linear.proofs.order.take_cheapest.Goals as goal

pub returns : goal.returns
returns c =
    let is = c.deref.ensures.value in
    let lt = subst (λ (l : List Slot). c.cheapest-at.result < length l) is c.cheapest-at.ensures in
    taken c.args.slots.now.items c.cheapest-at.result c.swap_remove.result c.swap_remove.new.self.items lt c.swap_remove.ensures.value c.swap_remove.ensures.items
