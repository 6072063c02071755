use Rattle.std.proofs.Common.{◌≡◌}
use Rattle.std.specs.List.{flat_map}
use Rattle.ded_run.specs.Made.{below, lines, land_row}
use Rattle.ded_dialogue.specs.Streams.{Grows}
use Rattle.ded_run.proofs.made.feed_lands.Given as goal

-- the statements so far were fed, and no call failed
abbrev pub invariant-loop-row : goal.invariant-loop-row
invariant-loop-row g l =
    let contents = g.K.Sink.contents in
    record {
      fed : Grows g.A.Answering.answers g.A.Answering.state l.fn.dialogue l.dialogue (contents l.fn.sink) (contents l.sink) (lines (flat_map (land_row l.size) (below l.row)));
      done : g.K.Sink.faults l.sink ≡ g.K.Sink.faults l.fn.sink;
    }
