use Rattle.std.proofs.Common.{◌≡◌, ◌++◌, drop}
use Rattle.ded_theme.specs.Replacing.{kept}
use Rattle.ded_theme.proofs.elimination.without.Given as goal

abbrev pub invariant-loop-atom : goal.invariant-loop-atom
invariant-loop-atom l = l.remaining.items ++ kept l.slot (drop l.atom-index l.atoms) ≡ kept l.slot l.atoms
