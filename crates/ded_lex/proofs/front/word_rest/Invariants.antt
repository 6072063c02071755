use Rattle.std.proofs.Common.{◌≡◌, ◌+◌, drop}
use Rattle.ded_lex.specs.Fronts.{word_rest}
use Rattle.ded_lex.proofs.front.word_rest.Given as goal

abbrev pub invariant-loop-i : goal.invariant-loop-i
invariant-loop-i l = word_rest l.after ≡ l.i + word_rest (drop l.i l.after)
