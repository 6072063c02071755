use Rattle.std.proofs.Common.{◌++◌, take}
use Rattle.std.specs.List.Sorted.{IsPermutation}
use Rattle.ded_index.specs.Entries.{numbered}
use Rattle.ded_index.specs.Trees.{entries_of, AreFull, AreSound, AreApart}
use Rattle.ded_index.proofs.index.BoxIndex.build.Given as goal

abbrev pub invariant-loop-i : goal.invariant-loop-i
invariant-loop-i l = record {
  full : AreFull (entries_of l.tree.items);
  sound : AreSound (entries_of l.tree.items);
  apart : AreApart l.apart.items;
  entries : IsPermutation (numbered 0 (take l.i l.boxes)) (entries_of l.tree.items ++ l.apart.items);
}
