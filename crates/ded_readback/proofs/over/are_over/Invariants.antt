use Rattle.std.proofs.Common.{drop}
use Rattle.std.specs.List.{AllByRecursion}
use Rattle.ded_readback.specs.Spelling.{IsShortTuple}
use Rattle.ded_readback.proofs.over.are_over.Given as goal

-- what holds of the tuples that are left and of all
abbrev pub invariant-loop-tuple : goal.invariant-loop-tuple
invariant-loop-tuple l = record {
  over : AllByRecursion (IsShortTuple l.columns) (drop l.tuple-index l.tuples) → AllByRecursion (IsShortTuple l.columns) l.tuples;
  rest : AllByRecursion (IsShortTuple l.columns) l.tuples → AllByRecursion (IsShortTuple l.columns) (drop l.tuple-index l.tuples);
}
