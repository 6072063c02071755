use Rattle.std.specs.List.{AllByRecursion}
use Rattle.ded_complement.specs.Pieces.{IsAlike}
use Rattle.ded_join.proofs.merging.merged.Given as goal

abbrev pub invariant-loop-atom : goal.invariant-loop-atom
invariant-loop-atom g l = record {
  alike : IsAlike g.T.Theory.holds l.yielded l.kept.items;
  normal : AllByRecursion g.T.Theory.normal l.kept.items;
}
