use Rattle.std.proofs.Common.{◌∙◌}
use Rattle.ded_run.specs.Made.{land_row}
use Rattle.ded_dialogue.proofs.Feeding.{on_err}
use Rattle.ded_run.proofs.Making.{grows_row, breaks_row}
use Rattle.ded_run.proofs.made.feed_lands.Goals as goal

pub returns-in_err-feed_land_row-clause-breaks : goal.returns-in_err-feed_land_row-clause-breaks
returns-in_err-feed_land_row-clause-breaks g c =
    on_err _ _ (breaks_row _ _ (land_row c.args.size) _ _ _ _ _ _ _ c.loop-row-test.true c.loop-row.invariant.fed c.in_err-feed_land_row.ensures.breaks)

pub loop-row-preserved : goal.loop-row-preserved
loop-row-preserved g c = record {
  fed = grows_row _ _ (land_row c.args.size) _ _ _ _ _ _ _ c.loop-row.invariant.fed c.in_ok-feed_land_row.ensures.grows;
  done = c.in_ok-feed_land_row.ensures.cause.done ∙ c.loop-row.invariant.done;
}
