-- The pairs with the tuples before the rest are verified.
use Rattle.ded_cert.specs.Pairs.{IsVerified}
use Rattle.ded_cert.proofs.PairChecks.{PassedWith}
use Rattle.ded_cert.proofs.verifying.are_verified.Given as goal

abbrev pub invariant-loop-other : goal.invariant-loop-other
invariant-loop-other l = PassedWith (IsVerified l.entries) (l.number, l.tuple) l.second.entries l.other-iterator
