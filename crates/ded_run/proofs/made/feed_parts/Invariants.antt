use Rattle.std.proofs.Common.{◌≡◌, take}
use Rattle.ded_run.specs.Parts.{parts_bytes}
use Rattle.ded_dialogue.specs.Streams.{Grows}
use Rattle.ded_run.proofs.made.feed_parts.Given as goal

-- the parts so far were fed, and no call failed
abbrev pub invariant-loop-part : goal.invariant-loop-part
invariant-loop-part g l =
    let contents = g.K.Sink.contents in
    record {
      fed : Grows g.A.Answering.answers g.A.Answering.state l.fn.dialogue l.dialogue (contents l.fn.sink) (contents l.sink) (parts_bytes (take l.part-index l.parts));
      done : g.K.Sink.faults l.sink ≡ g.K.Sink.faults l.fn.sink;
    }
