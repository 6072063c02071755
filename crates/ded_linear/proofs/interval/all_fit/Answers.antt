use Rattle.std.proofs.Common.{◌≡◌, true, arith, sym, take}
use Rattle.ded_linear.specs.Intervals.{row_fits}
use Rattle.ded_linear.proofs.Boxes.{fit_more, met_fits}
use Rattle.ded_linear.proofs.interval.all_fit.Goals as goal
use Rattle.ded_linear.proofs.interval.all_fit.Goals.{else-not-has_place-via-then-not-has_place+else-not-row_fits, else-not-has_place-via-else-not-has_place}

pub loop-i-preserved : goal.loop-i-preserved
loop-i-preserved c =
    let rows = c.args.rows.now in
    let r = c.index-rows-i.result in
    let fits : row_fits rows c.args.slot r ≡ true = elim c.else-not-has_place.branch [
      | else-not-has_place-via-then-not-has_place+else-not-row_fits w ↦ sym w.if-not-row_fits.ensures
      | else-not-has_place-via-else-not-has_place w ↦ met_fits rows c.args.slot (take c.loop-i.i rows) r c.loop-i.invariant (sym w.if-not-has_place.ensures)
    ] in
    fit_more rows c.args.slot c.loop-i.i r (omega arith) c.index-rows-i.is c.loop-i.invariant fits
