use Rattle.std.proofs.Common.{◌≡◌, drop}
use Rattle.ded_model.specs.declared.bound.Bound.TheVariants.{Infinite}
use Rattle.ded_box.specs.Intervals.{end_of}
use Rattle.ded_linear.specs.Intervals.{narrowed}
use Rattle.ded_linear.proofs.interval.bound_of.Given as goal

abbrev pub invariant-loop-row : goal.invariant-loop-row
invariant-loop-row l = narrowed (end_of l.side) l.slot l.bound (drop l.row-index l.rows) ≡ narrowed (end_of l.side) l.slot Infinite l.rows
