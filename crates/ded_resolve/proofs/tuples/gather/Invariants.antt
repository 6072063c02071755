use Rattle.std.proofs.Common.{◌≡◌, ◌≤◌, drop, length, map}
use Rattle.ded_model.specs.Form.{form}
use Rattle.ded_model.specs.Normal.{IsNormalTuple, ordered_atoms}
use Rattle.ded_model.specs.Slotted.{comparison_atoms}
use Rattle.ded_resolve.proofs.tuples.gather.Given as goal

abbrev pub invariant-loop-at : goal.invariant-loop-at
invariant-loop-at l = record {
  place : l.at ≤ length l.comparisons;
  normal : IsNormalTuple l.tuple;
  done : l.tuple ≡ ordered_atoms (comparison_atoms l.scope (map form (drop l.at l.comparisons)));
}

abbrev pub decreases-loop-at : goal.decreases-loop-at
decreases-loop-at l = l.at
