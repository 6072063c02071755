use Rattle.std.proofs.Common.{Bool, false, refl, sym, subst, inl, ◌∙◌}
use Rattle.ded_dialogue.specs.Outcome.{ConcludedIn}
use Rattle.ded_dialogue.specs.Hearing.{heard_from}
use Rattle.ded_dialogue.proofs.Feeding.{concludes}
use Rattle.ded_dialogue.proofs.serving.conclude.Goals as goal

pub returns-in-Ok-2-clause-kinds : goal.returns-in-Ok-2-clause-kinds
returns-in-Ok-2-clause-kinds g c = inl refl

pub returns-in-Ok-clause-done_with_refusals : goal.returns-in-Ok-clause-done_with_refusals
returns-in-Ok-clause-done_with_refusals g c = λ is start silent taken contents s.
    subst (λ (b : Bool). ConcludedIn (heard_from g.A.Answering.answers start) silent taken contents (g.K.Sink.contents c.finish.new.sink) b (g.A.Answering.state c.finish.new.self.machine))
    (sym c.refused.ensures ∙ c.if-refused.true) (concludes _ _ _ _ _ _ _ _ (c.in-Ok.ensures.ends.on start silent false taken contents s))

pub returns-in-Ok-2-clause-done : goal.returns-in-Ok-2-clause-done
returns-in-Ok-2-clause-done g c = λ is start silent taken contents s.
    subst (λ (b : Bool). ConcludedIn (heard_from g.A.Answering.answers start) silent taken contents (g.K.Sink.contents c.finish.new.sink) b (g.A.Answering.state c.finish.new.self.machine))
    (sym c.refused.ensures ∙ c.if-refused.false) (concludes _ _ _ _ _ _ _ _ (c.in-Ok.ensures.ends.on start silent false taken contents s))
