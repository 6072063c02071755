-- What `send` keeps from piece to piece.
use Rattle.std.proofs.Common.{◌≡◌, length}
use Rattle.ded_io.specs.Devices.{Sent}
use Rattle.ded_io.proofs.device.send.Given as goal

-- what isn't left was taken, and no call failed
abbrev pub invariant-loop-rest : goal.invariant-loop-rest
invariant-loop-rest g l =
    let contents = g.K.Sink.contents in
    let faults = g.K.Sink.faults in
    record {
      sent : Sent (contents l.fn.sink) (contents l.sink) l.fn.bytes l.rest;
      done : faults l.sink ≡ faults l.fn.sink;
    }

abbrev pub decreases-loop-rest : goal.decreases-loop-rest
decreases-loop-rest g l = length l.rest
