use Rattle.std.proofs.Common.{take}
use Rattle.ded_theme.specs.Classes.{rules_of, AreRulesOf}
use Rattle.ded_theme.proofs.classes.rules.Given as goal

abbrev pub invariant-loop-atom : goal.invariant-loop-atom
invariant-loop-atom l = AreRulesOf (take l.atom-index l.atoms) (rules_of l.rules.items)
