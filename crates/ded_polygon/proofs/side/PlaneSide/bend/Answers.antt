use Rattle.std.proofs.Common.{◌∙◌, ap₂}
use Rattle.ded_polygon.specs.Plane.{bend}
use Rattle.ded_polygon.proofs.Short.{short_bend, bend_is}
use Rattle.ded_polygon.proofs.side.PlaneSide.bend.Goals as goal

pub cross-requires-clause-whole : goal.cross-requires-clause-whole
cross-requires-clause-whole c = short_bend _ _ c.self.invariant c.other.invariant

pub returns : goal.returns
returns c = bend_is _ _ c.self.invariant c.other.invariant _ c.cross.ensures ∙ ap₂ bend c.self.view_is c.other.view_is
