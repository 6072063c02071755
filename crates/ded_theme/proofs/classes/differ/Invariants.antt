use Rattle.std.proofs.Common.{drop}
use Rattle.ded_theme.specs.Classes.{rules_of, AreSplit}
use Rattle.ded_theme.proofs.classes.differ.Given as goal

abbrev pub invariant-loop-atom : goal.invariant-loop-atom
invariant-loop-atom l = AreSplit (rules_of l.rules) (drop l.atom-index l.atoms) → AreSplit (rules_of l.rules) l.atoms
