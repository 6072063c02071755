use Rattle.std.proofs.Common.{Option, IfSome, inl, inr, sym, subst}
use Rattle.ded_join.specs.declared.texts.Texts.{Texts}
use Rattle.ded_join.specs.Texts.{AreTexts}
use Rattle.ded_join.proofs.texts.texts_over.Goals as goal

pub loop-slot-preserved : goal.loop-slot-preserved
loop-slot-preserved g c = elim c.better-best.ensures [
  | inl e ↦ subst (λ (o : Option Texts). IfSome o (λ k. AreTexts g.T.Theory.holds c.args.second.now k)) (sym e) c.loop-slot.invariant
  | inr e ↦ subst (λ (o : Option Texts). IfSome o (λ k. AreTexts g.T.Theory.holds c.args.second.now k)) (sym e) c.in_ok-texts_at.ensures
]
