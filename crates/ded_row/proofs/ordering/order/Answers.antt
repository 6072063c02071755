use Rattle.std.proofs.Common.{◌≡◌, ap, ap₂, ◌∙◌, SFits}
use Rattle.std.specs.Int.{w128}
use Rattle.std.specs.Ordering.{ordering_then, int_cmp, nat_cmp}
use Rattle.std.proofs.lemmas.Int.{fits_signed_from_abs}
use Rattle.ded_model.specs.Normal.{coefs_order, op_place}
use Rattle.ded_row.proofs.Orders.{row_order_is}
use Rattle.ded_row.proofs.ordering.order.Goals as goal

pub returns : goal.returns
returns c =
    let fa : SFits w128 c.a.inside.constant = fits_signed_from_abs w128 _ c.a.invariant in
    let fb : SFits w128 c.b.inside.constant = fits_signed_from_abs w128 _ c.b.invariant in
    let coefs : c.order_coefs.result ≡ coefs_order c.a.inside.coefs c.b.inside.coefs = c.order_coefs.ensures ∙ ap₂ coefs_order c.list.ensures.value c.list-2.ensures.value in
    let constants : c.cmp.result ≡ int_cmp c.a.inside.constant c.b.inside.constant = c.cmp.ensures in
    let ops : c.cmp-2.result ≡ nat_cmp (op_place c.a.inside.op) (op_place c.b.inside.op) = c.cmp-2.ensures ∙ ap₂ nat_cmp c.place.ensures c.place-2.ensures in
    c.then-2.ensures ∙ ap (λ o. ordering_then o c.cmp-2.result) c.then.ensures
    ∙ row_order_is _ _ _ _ c.order_coefs.result c.cmp.result c.cmp-2.result c.a.view_is c.b.view_is coefs constants ops
