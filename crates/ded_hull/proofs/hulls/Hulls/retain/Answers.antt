use Rattle.std.proofs.Common.{length}
use Rattle.ded_hull.proofs.Falling.{falling_taken}
use Rattle.ded_hull.proofs.hulls.Hulls.retain.Goals as goal

pub invariant_of-self : goal.invariant_of-self
invariant_of-self g c = falling_taken (length c.gather.new.trees.items) c.self.inside.trees.items c.gather.new.trees.items c.gather.ensures.first c.self.invariant
