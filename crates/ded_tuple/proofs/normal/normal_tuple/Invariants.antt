use Rattle.std.proofs.Common.{◌≡◌, length}
use Rattle.std.specs.List.{AllByRecursion}
use Rattle.ded_model.specs.Normal.{ordered_atoms}
use Rattle.ded_tuple.specs.Places.{placed}
use Rattle.ded_tuple.specs.TrueRows.{IsNormalOrTrue, without_true}
use Rattle.ded_tuple.proofs.normal.normal_tuple.Given as goal

abbrev pub invariant-loop-atom : goal.invariant-loop-atom
invariant-loop-atom l = record {
  normal : AllByRecursion IsNormalOrTrue l.atoms.items;
  done : placed (without_true l.atoms.items) l.tuple ≡ ordered_atoms (without_true l.initial.atoms.items);
}

abbrev pub decreases-loop-atom : goal.decreases-loop-atom
decreases-loop-atom l = length l.atoms.items
