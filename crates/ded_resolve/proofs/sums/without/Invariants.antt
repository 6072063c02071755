use Rattle.std.proofs.Common.{drop}
use Rattle.ded_model.specs.Coefs.{AreCoefs}
use Rattle.ded_resolve.proofs.Differences.{Differing}
use Rattle.ded_resolve.proofs.sums.without.Given as goal

abbrev pub invariant-loop-slot : goal.invariant-loop-slot
invariant-loop-slot l = record {
  kept : AreCoefs l.coefs;
  done : Differing l.fn.left l.slot-items (drop l.slot-index l.slot-items) l.coefs;
}
