use Rattle.std.proofs.Common.{drop}
use Rattle.ded_theme.specs.Sources.{source}
use Rattle.ded_theme.proofs.Loops.{IsReplacing}
use Rattle.ded_theme.proofs.elimination.with_word_in_all.Given as goal

abbrev pub invariant-loop-atom : goal.invariant-loop-atom
invariant-loop-atom l = IsReplacing l.slot (source l.word) l.atoms (drop l.atom-index l.atoms) l.remaining.items
