use Rattle.std.proofs.Common.{◌≡◌, ◌+◌, ◌-◌, drop, length}
use Rattle.ded_model.specs.Coefs.{place_of, is_taken}
use Rattle.ded_model.proofs.row.find.Given as goal

abbrev pub invariant-loop-at : goal.invariant-loop-at
invariant-loop-at l = record {
  place : place_of l.slot l.list ≡ l.at + place_of l.slot (drop l.at l.list);
  taken : is_taken l.slot l.list ≡ is_taken l.slot (drop l.at l.list);
}

abbrev pub decreases-loop-at : goal.decreases-loop-at
decreases-loop-at l = length l.list - l.at
