use Rattle.std.proofs.Common.{◌≡◌, [], drop}
use Rattle.ded_readback.specs.Reading.{coefs_from}
use Rattle.ded_readback.proofs.row.coefs_of.Given as goal

abbrev pub invariant-loop-term : goal.invariant-loop-term
invariant-loop-term l = coefs_from l.turned l.coefs (drop l.term-index l.terms) ≡ coefs_from l.turned [] l.terms
