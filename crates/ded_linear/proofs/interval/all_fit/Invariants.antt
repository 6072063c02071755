use Rattle.std.proofs.Common.{◌≡◌, true, take}
use Rattle.std.specs.List.{list_all}
use Rattle.ded_linear.specs.Intervals.{row_fits}
use Rattle.ded_linear.proofs.interval.all_fit.Given as goal

abbrev pub invariant-loop-i : goal.invariant-loop-i
invariant-loop-i l = list_all (row_fits l.rows l.slot) (take l.i l.rows) ≡ true
