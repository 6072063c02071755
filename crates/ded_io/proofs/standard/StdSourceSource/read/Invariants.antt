-- What the source keeps while a signal interrupts its reads.
use Rattle.std.proofs.Common.{◌≡◌, length}
use Rattle.std.specs.Io.KnownBytes.{Keeps}
use Rattle.ded_io.proofs.standard.StdSourceSource.read.Given as goal

-- nothing was read, and no fault was counted
abbrev pub invariant-loop : goal.invariant-loop
invariant-loop g l =
    let remaining = g.R.Read.remaining in
    record {
      kept : Keeps (remaining l.fn.self.reader) (remaining l.self.reader);
      faults : l.self.faults ≡ l.fn.self.faults;
      room : length l.into ≡ length l.fn.into;
    }
