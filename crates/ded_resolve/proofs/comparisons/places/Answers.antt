use Rattle.std.proofs.Common.{◌≡◌, sym, ◌∙◌, subst}
use Rattle.ded_resolve.specs.Scope.{IsPlaceable, ArePlaceable}
use Rattle.ded_resolve.proofs.Operands.{placeable_at}
use Rattle.ded_resolve.proofs.comparisons.places.Goals as goal

pub place-requires : goal.place-requires
place-requires c =
    let ts = c.deref-operand-items.result.now in
    let is : ts ≡ c.args.operands.now = c.deref-operand-items.ensures.value ∙ c.operands.view_is in
    subst (IsPlaceable c.args.scope.now) (sym c.operand-item.is)
    (placeable_at c.args.scope.now ts c.loop-operand.operand-index c.operand-item.result (subst (ArePlaceable c.args.scope.now) (sym is) c.requires) c.loop-operand-test.true)
