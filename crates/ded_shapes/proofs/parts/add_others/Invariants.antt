use Rattle.std.proofs.Common.{◌≡◌, drop}
use Rattle.ded_shapes.specs.Projections.{with_others}
use Rattle.ded_shapes.proofs.parts.add_others.Given as goal

abbrev pub invariant-loop-next : goal.invariant-loop-next
invariant-loop-next l = with_others l.x l.y l.others.items (drop l.next-index l.list) ≡ with_others l.x l.y l.fn.others.items l.list
