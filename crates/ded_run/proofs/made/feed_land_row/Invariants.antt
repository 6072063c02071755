use Rattle.std.proofs.Common.{◌≡◌, map}
use Rattle.ded_run.specs.Made.{below, lines, land_insert}
use Rattle.ded_dialogue.specs.Streams.{Grows}
use Rattle.ded_run.proofs.made.feed_land_row.Given as goal

-- the statements so far were fed, and no call failed
abbrev pub invariant-loop-column : goal.invariant-loop-column
invariant-loop-column g l =
    let contents = g.K.Sink.contents in
    record {
      fed : Grows g.A.Answering.answers g.A.Answering.state l.fn.dialogue l.dialogue (contents l.fn.sink) (contents l.sink) (lines (map (land_insert l.row) (below l.column)));
      done : g.K.Sink.faults l.sink ≡ g.K.Sink.faults l.fn.sink;
    }
