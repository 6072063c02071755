use Rattle.std.proofs.Common.{◌≡◌, map}
use Rattle.ded_run.specs.Made.{below, lines, road_insert}
use Rattle.ded_dialogue.specs.Streams.{Grows}
use Rattle.ded_run.proofs.made.feed_roads.Given as goal

-- the statements so far were fed, and no call failed
abbrev pub invariant-loop-band : goal.invariant-loop-band
invariant-loop-band g l =
    let contents = g.K.Sink.contents in
    record {
      fed : Grows g.A.Answering.answers g.A.Answering.state l.fn.dialogue l.dialogue (contents l.fn.sink) (contents l.sink) (lines (map road_insert (below l.band)));
      done : g.K.Sink.faults l.sink ≡ g.K.Sink.faults l.fn.sink;
    }
