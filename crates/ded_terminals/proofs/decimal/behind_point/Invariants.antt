use Rattle.std.proofs.Common.{◌≡◌, drop}
use Rattle.ded_terminals.specs.Symbols.{behind_point}
use Rattle.ded_terminals.proofs.decimal.behind_point.Given as goal

abbrev pub invariant-loop-i : goal.invariant-loop-i
invariant-loop-i l = behind_point l.text ≡ behind_point (drop l.i l.text)
