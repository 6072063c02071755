use Rattle.std.proofs.Common.{◌≡◌, ◌-◌, length}
use Rattle.ded_readback.specs.Reading.{tuples_from, tuples_at}
use Rattle.ded_readback.proofs.tuple.tuples.Given as goal

abbrev pub invariant-loop : goal.invariant-loop
invariant-loop l = tuples_from l.columns (length l.bytes - l.counter) l.tuples.items l.rest ≡ tuples_at l.columns l.bytes
