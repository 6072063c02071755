use Rattle.std.proofs.Common.{◌∙◌, sym}
use Rattle.ded_row.proofs.Orders.{order_with, decided, undecided}
use Rattle.ded_row.proofs.ordering.order_coefs.Goals as goal

pub returns-then-is_ne : goal.returns-then-is_ne
returns-then-is_ne c =
    let n = c.next_slot-next.result in
    decided c.cmp-here.result _ c.if-is_ne.ensures ∙ order_with _ _ n.slot n.a n.b _ _ c.cmp-here.result _ c.next_slot-next.ensures.first c.cmp-here.ensures c.loop-i.invariant.same

pub loop-i-preserved : goal.loop-i-preserved
loop-i-preserved c =
    let n = c.next_slot-next.result in
    record {
      place_i = c.next_slot-next.ensures.place_i.1;
      place_j = c.next_slot-next.ensures.place_j.1;
      same = sym (undecided c.cmp-here.result _ c.if-is_ne.ensures) ∙ order_with _ _ n.slot n.a n.b _ _ c.cmp-here.result _ c.next_slot-next.ensures.first c.cmp-here.ensures c.loop-i.invariant.same;
    }
