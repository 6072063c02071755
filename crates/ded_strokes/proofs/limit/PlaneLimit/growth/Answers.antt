use Rattle.std.proofs.Common.{◌∙◌, ap₂}
use Rattle.ded_strokes.specs.Near.{growth}
use Rattle.ded_strokes.proofs.Growths.{whole_sum, growth_is}
use Rattle.ded_strokes.proofs.limit.PlaneLimit.growth.Goals as goal

pub sum-requires : goal.sum-requires
sum-requires c = whole_sum _ _ c.self.invariant c.direction.invariant _ _ c.product.ensures c.product-2.ensures

pub returns : goal.returns
returns c =
    growth_is _ _ c.self.invariant c.direction.invariant _ _ c.product.ensures c.product-2.ensures _ c.sum.ensures
    ∙ ap₂ (λ b w. growth b.plane w) c.self.view_is c.direction.view_is
