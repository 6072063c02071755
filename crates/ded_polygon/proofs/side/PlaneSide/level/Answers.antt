use Rattle.std.proofs.Common.{◌∙◌, ap₂}
use Rattle.ded_polygon.specs.Plane.{level}
use Rattle.ded_polygon.proofs.Short.{third_product, first_sum, second_sum, level_is}
use Rattle.ded_polygon.proofs.side.PlaneSide.level.Goals as goal

pub sum-requires : goal.sum-requires
sum-requires c = first_sum _ _ c.self.invariant c.corner.invariant _ _ c.product.ensures c.product-2.ensures

pub product-requires-3 : goal.product-requires-3
product-requires-3 c = third_product _ _ c.self.invariant c.corner.invariant

pub sum-requires-2 : goal.sum-requires-2
sum-requires-2 c = second_sum _ _ c.self.invariant c.corner.invariant _ _ c.product.ensures c.product-2.ensures _ _ c.sum.ensures c.product-3.ensures

pub returns : goal.returns
returns c =
    level_is _ _ c.self.invariant c.corner.invariant _ _ c.product.ensures c.product-2.ensures _ _ c.sum.ensures c.product-3.ensures _ c.sum-2.ensures
    ∙ ap₂ level c.self.view_is c.corner.view_is
