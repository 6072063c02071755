use Rattle.std.proofs.Common.{◌≡◌, drop}
use Rattle.ded_theme.specs.Sources.{source}
use Rattle.ded_theme.specs.Classes.{rules_of, class_of}
use Rattle.ded_theme.proofs.classes.class_word.Given as goal

abbrev pub invariant-loop-rule : goal.invariant-loop-rule
invariant-loop-rule l = class_of (rules_of (drop l.rule-index l.rules)) (source l.class) ≡ class_of (rules_of l.rules) (source l.word)
