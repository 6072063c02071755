use Rattle.std.proofs.Common.{take}
use Rattle.ded_eval.specs.Within.{AreTermsOf}
use Rattle.ded_eval.proofs.window.limit_of.Given as goal

abbrev pub invariant-loop-coef : goal.invariant-loop-coef
invariant-loop-coef l = AreTermsOf l.slots (take l.coef-index l.coefs) l.terms.items
