-- The pairs of the tuples before the rest are verified.
use Rattle.ded_cert.specs.Pairs.{IsVerified}
use Rattle.ded_cert.proofs.PairChecks.{PassedOf}
use Rattle.ded_cert.proofs.verifying.verify_all.Given as goal

abbrev pub invariant-loop-number : goal.invariant-loop-number
invariant-loop-number l = PassedOf (IsVerified l.entries) l.second.entries l.first.entries l.number-iterator
