use Rattle.std.proofs.Common.{◌≡◌, drop}
use Rattle.ded_lex.specs.Fronts.{decimal_rest}
use Rattle.ded_lex.proofs.Counting.{plus}
use Rattle.ded_lex.proofs.front.decimal_rest.Given as goal

abbrev pub invariant-loop-i : goal.invariant-loop-i
invariant-loop-i l = decimal_rest l.after ≡ plus l.i (decimal_rest (drop l.i l.after))
