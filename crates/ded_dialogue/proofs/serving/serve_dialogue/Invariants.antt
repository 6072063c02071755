use Rattle.std.proofs.Common.{◌≡◌}
use Rattle.ded_dialogue.specs.Streams.{Reading}
use Rattle.ded_dialogue.proofs.serving.serve_dialogue.Given as goal

-- what was taken is answered, and no call failed
abbrev pub invariant-loop-count : goal.invariant-loop-count
invariant-loop-count g l =
    let left = g.S.Source.left in
    let contents = g.K.Sink.contents in
    record {
      reading : Reading g.A.Answering.answers g.A.Answering.state (g.A.Answering.state l.fn.dialogue.machine) l.fn.input_limit l.room l.dialogue (left l.fn.source) (left l.source) (contents l.fn.sink) (contents l.sink);
      read : g.S.Source.faults l.source ≡ g.S.Source.faults l.fn.source;
      written : g.K.Sink.faults l.sink ≡ g.K.Sink.faults l.fn.sink;
    }

abbrev pub decreases-loop-count : goal.decreases-loop-count
decreases-loop-count g l = l.room
