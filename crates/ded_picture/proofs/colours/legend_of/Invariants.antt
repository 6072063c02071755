-- The entries of the texts that are left complete the legend.
use Rattle.std.proofs.Common.{◌≡◌, ◌++◌, drop}
use Rattle.ded_picture.specs.Colours.{entries_of}
use Rattle.ded_picture.proofs.colours.legend_of.Given as goal

abbrev pub invariant-loop-place : goal.invariant-loop-place
invariant-loop-place l = l.legend.items ++ entries_of l.colour (drop l.place l.labels.keys) ≡ entries_of 0 l.labels.keys
