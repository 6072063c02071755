use Rattle.std.proofs.Common.{◌≡◌, [], take}
use Rattle.ded_dialogue.specs.Streams.{GrowsBehind}
use Rattle.ded_dialogue.proofs.dialogue.Dialogue.feed.Given as goal

-- the bytes so far are answered, the last of the texts may wait, and no call failed
abbrev pub invariant-loop-byte : goal.invariant-loop-byte
invariant-loop-byte g l =
    let contents = g.K.Sink.contents in
    record {
      fed : GrowsBehind g.A.Answering.answers g.A.Answering.state l.fn.self l.self (contents l.fn.sink) [] (contents l.sink) l.pending.bytes.items (take l.byte-index l.bytes);
      done : g.K.Sink.faults l.sink ≡ g.K.Sink.faults l.fn.sink;
    }
