use Rattle.std.proofs.Common.{◌≡◌, ◌+◌, drop}
use Rattle.ded_lex.specs.Fronts.{line_length}
use Rattle.ded_lex.proofs.front.line_length.Given as goal

abbrev pub invariant-loop-i : goal.invariant-loop-i
invariant-loop-i l = line_length l.bytes ≡ l.i + line_length (drop l.i l.bytes)
