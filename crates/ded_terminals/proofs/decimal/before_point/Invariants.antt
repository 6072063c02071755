use Rattle.std.proofs.Common.{◌≡◌, ◌++◌, take, drop}
use Rattle.ded_terminals.specs.Symbols.{before_point}
use Rattle.ded_terminals.proofs.decimal.before_point.Given as goal

abbrev pub invariant-loop-i : goal.invariant-loop-i
invariant-loop-i l = before_point l.text ≡ take l.i l.text ++ before_point (drop l.i l.text)
