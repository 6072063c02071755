-- What the sink keeps while a signal interrupts its writes.
use Rattle.std.proofs.Common.{◌≡◌}
use Rattle.std.specs.Io.KnownBytes.{Keeps}
use Rattle.ded_io.proofs.standard.StdSinkSink.write.Given as goal

-- nothing was written, and no fault was counted
abbrev pub invariant-loop : goal.invariant-loop
invariant-loop g l =
    let contents = g.W.Write.contents in
    record {
      kept : Keeps (contents l.fn.self.writer) (contents l.self.writer);
      faults : l.self.faults ≡ l.fn.self.faults;
    }
