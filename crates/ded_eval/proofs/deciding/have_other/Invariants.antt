use Rattle.std.proofs.Common.{◌≡◌, drop}
use Rattle.std.specs.List.{list_any}
use Rattle.ded_packed.specs.Lent.{lent}
use Rattle.ded_eval.specs.OrderPlans.{has_other}
use Rattle.ded_eval.proofs.deciding.have_other.Given as goal

abbrev pub invariant-loop-tuple : goal.invariant-loop-tuple
invariant-loop-tuple l = list_any has_other (lent (drop l.tuple-index l.tuples)) ≡ list_any has_other (lent l.tuples)
