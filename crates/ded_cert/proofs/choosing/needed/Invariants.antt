use Rattle.std.proofs.Common.{◌≡◌, length}
use Rattle.ded_model.specs.Cell.{conj_holds, HoldsNowhere}
use Rattle.ded_model.specs.Row.{row_holds}
use Rattle.ded_weighing.specs.Columns.{lent}
use Rattle.ded_cert.specs.Choosing.{chosen}
use Rattle.ded_cert.proofs.choosing.needed.Given as goal

abbrev pub invariant-loop-i : goal.invariant-loop-i
invariant-loop-i l = record {
  nowhere : HoldsNowhere (conj_holds row_holds (chosen l.flags.items (lent l.rows)));
  count : length l.flags.items ≡ length l.rows;
}
