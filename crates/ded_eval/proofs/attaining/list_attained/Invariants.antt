use Rattle.std.proofs.Common.{◌≡◌, true}
use Rattle.ded_genrel.specs.Lists.{conjs_of}
use Rattle.ded_eval.specs.Finding.{AreRefuted}
use Rattle.ded_eval.proofs.attaining.list_attained.Given as goal

abbrev pub invariant-loop-conj : goal.invariant-loop-conj
invariant-loop-conj g l = l.are_refuted ≡ true → AreRefuted g.T.Theory.holds l.atoms (conjs_of l.yielded)
