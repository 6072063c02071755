use Rattle.std.proofs.Common.{◌∙◌}
use Rattle.ded_run.specs.Made.{land_insert}
use Rattle.ded_dialogue.proofs.Feeding.{on_err}
use Rattle.ded_run.proofs.Making.{grows_line, breaks_line}
use Rattle.ded_run.proofs.made.feed_land_row.Goals as goal

pub returns-in_err-feed_land-clause-breaks : goal.returns-in_err-feed_land-clause-breaks
returns-in_err-feed_land-clause-breaks g c =
    on_err _ _ (breaks_line _ _ (land_insert c.args.row) _ _ _ _ _ _ _ c.loop-column-test.true c.loop-column.invariant.fed c.in_err-feed_land.ensures.breaks)

pub loop-column-preserved : goal.loop-column-preserved
loop-column-preserved g c = record {
  fed = grows_line _ _ (land_insert c.args.row) _ _ _ _ _ _ _ c.loop-column.invariant.fed c.in_ok-feed_land.ensures.grows;
  done = c.in_ok-feed_land.ensures.cause.done ∙ c.loop-column.invariant.done;
}
