use Rattle.std.proofs.Common.{◌≡◌, drop, []}
use Rattle.ded_shapes.specs.Projections.{with_all_others}
use Rattle.ded_shapes.proofs.parts.other_slots.Given as goal

abbrev pub invariant-loop-row : goal.invariant-loop-row
invariant-loop-row l = with_all_others l.x l.y l.others.items (drop l.row-index l.rows) ≡ with_all_others l.x l.y [] l.rows
