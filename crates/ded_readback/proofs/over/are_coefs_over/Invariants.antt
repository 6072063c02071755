use Rattle.std.proofs.Common.{◌≡◌, drop}
use Rattle.ded_readback.specs.Over.{coefs_over}
use Rattle.ded_readback.proofs.over.are_coefs_over.Given as goal

abbrev pub invariant-loop-slot : goal.invariant-loop-slot
invariant-loop-slot l = coefs_over l.columns (drop l.slot-index l.coefs) ≡ coefs_over l.columns l.coefs
