use Rattle.std.proofs.Common.{◌≡◌, drop, false}
use Rattle.ded_lex.specs.Fronts.{quoted_rest}
use Rattle.ded_lex.proofs.Counting.{plus}
use Rattle.ded_lex.proofs.front.quoted_rest.Given as goal

abbrev pub invariant-loop-i : goal.invariant-loop-i
invariant-loop-i l = quoted_rest false l.after ≡ plus l.i (quoted_rest l.closed (drop l.i l.after))
