use Rattle.std.proofs.Common.{◌≡◌, drop}
use Rattle.ded_lex.specs.Fronts.{number_rest}
use Rattle.ded_lex.proofs.Counting.{plus}
use Rattle.ded_lex.proofs.front.number_rest.Given as goal

abbrev pub invariant-loop-i : goal.invariant-loop-i
invariant-loop-i l = number_rest l.after ≡ plus l.i (number_rest (drop l.i l.after))
