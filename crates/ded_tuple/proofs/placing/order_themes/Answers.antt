use Rattle.std.proofs.Common.{◌≡◌, ap, ap₂, ◌∙◌}
use Rattle.std.specs.Ordering.{ordering_then, nat_cmp}
use Rattle.std.specs.Cmp.Lexicographic.{slice_cmp}
use Rattle.ded_model.specs.Normal.{first_slot, kind_place, quoted_text, second_number}
use Rattle.ded_tuple.proofs.AtomOrders.{theme_order-is}
use Rattle.ded_tuple.proofs.placing.order_themes.Goals as goal

pub returns : goal.returns
returns c =
    let a = c.args.a.now in
    let b = c.args.b.now in
    let first : c.cmp.result ≡ nat_cmp (first_slot a).number (first_slot b).number = c.cmp.ensures ∙ ap₂ nat_cmp c.first_number.ensures c.first_number-2.ensures in
    let kinds : c.cmp-2.result ≡ nat_cmp (kind_place a) (kind_place b) = c.cmp-2.ensures ∙ ap₂ nat_cmp c.kind.ensures c.kind-2.ensures in
    let texts : c.cmp-3.result ≡ slice_cmp nat_cmp (quoted_text a) (quoted_text b) = c.cmp-3.ensures ∙ ap₂ (slice_cmp nat_cmp) c.text.ensures c.text-2.ensures in
    let seconds : c.cmp-4.result ≡ nat_cmp (second_number a) (second_number b) = c.cmp-4.ensures ∙ ap₂ nat_cmp c.second_number.ensures c.second_number-2.ensures in
    c.then-3.ensures ∙ ap (λ o. ordering_then o c.cmp-4.result) (c.then-2.ensures ∙ ap (λ o. ordering_then o c.cmp-3.result) c.then.ensures)
    ∙ theme_order-is a b c.cmp.result c.cmp-2.result c.cmp-3.result c.cmp-4.result first kinds texts seconds
