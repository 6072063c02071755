use Rattle.std.proofs.Common.{◌≡◌, ◌-◌, [], length}
use Rattle.std.specs.List.{AllByRecursion}
use Rattle.ded_tuple.specs.TrueRows.{IsNormalOrTrue}
use Rattle.ded_readback.specs.Reading.{atoms_from}
use Rattle.ded_readback.proofs.tuple.atoms.Given as goal

abbrev pub invariant-loop : goal.invariant-loop
invariant-loop l = record {
  same : atoms_from l.columns (length l.bytes - l.counter) l.atoms.items l.rest ≡ atoms_from l.columns (length l.bytes) [] l.bytes;
  each : AllByRecursion IsNormalOrTrue l.atoms.items;
}
