use Rattle.std.proofs.Common.{IfSome}
use Rattle.ded_join.specs.Texts.{AreTexts}
use Rattle.ded_join.proofs.texts.texts_over.Given as goal

abbrev pub invariant-loop-slot : goal.invariant-loop-slot
invariant-loop-slot g l = IfSome l.best (λ k. AreTexts g.T.Theory.holds l.second k)
