use Rattle.std.proofs.Common.{◌∙◌}
use Rattle.ded_run.specs.Made.{road_insert}
use Rattle.ded_dialogue.proofs.Feeding.{on_err}
use Rattle.ded_run.proofs.Making.{grows_line, breaks_line}
use Rattle.ded_run.proofs.made.feed_roads.Goals as goal

pub returns-in_err-feed_road-clause-breaks : goal.returns-in_err-feed_road-clause-breaks
returns-in_err-feed_road-clause-breaks g c =
    on_err _ _ (breaks_line _ _ road_insert _ _ _ _ _ _ _ c.loop-band-test.true c.loop-band.invariant.fed c.in_err-feed_road.ensures.breaks)

pub loop-band-preserved : goal.loop-band-preserved
loop-band-preserved g c = record {
  fed = grows_line _ _ road_insert _ _ _ _ _ _ _ c.loop-band.invariant.fed c.in_ok-feed_road.ensures.grows;
  done = c.in_ok-feed_road.ensures.cause.done ∙ c.loop-band.invariant.done;
}
