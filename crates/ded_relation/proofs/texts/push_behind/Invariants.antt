use Rattle.std.proofs.Common.{◌≡◌, ◌++◌}
use Rattle.ded_relation.proofs.Coded.{numbers, run}
use Rattle.ded_relation.proofs.texts.push_behind.Given as goal

abbrev pub invariant-loop-key : goal.invariant-loop-key
invariant-loop-key l = l.found.items ++ numbers l.key-iterator ≡ l.initial.found.items ++ numbers (run l.code l.set)
