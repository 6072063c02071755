use Rattle.std.proofs.Common.{◌≡◌, ◌++◌, ◌∷◌, [], List, ℕ, sym, ap, ◌∙◌, subst}
use Rattle.ded_lex.specs.Pieces.{Whole}
use Rattle.ded_session.specs.Answered.{reply_form}
use Rattle.ded_session.specs.State.{catalogue_in}
use Rattle.ded_session.specs.Steps.{Step}
use Rattle.ded_kept.specs.Answering.{kept_text}
use Rattle.ded_kept.specs.Defining.{IsDefinedBy}
use Rattle.ded_kept.proofs.Defined.{defines_more}
use Rattle.ded_kept.proofs.session.KeptSession.repeat.Goals as goal

pub returns-clause-defines : goal.returns-clause-defines
returns-clause-defines c = λ done limit list defined.
    subst (λ (l : List (List ℕ)). IsDefinedBy limit l (catalogue_in c.step-reply.new.self))
    (ap (λ (t : List ℕ). list ++ t ∷ []) (ap (λ (b : ℕ). c.in-Some.piece.now ++ b ∷ []) (sym c.if-last-ne59.false) ∙ sym c.in-Some.ensures.cases.0))
    (defines_more limit list (catalogue_in c.args.self.now.session) (catalogue_in c.step-reply.new.self) c.in-Some.piece.now (reply_form c.step-reply.result) defined
    (subst (λ l. Step l (catalogue_in c.args.self.now.session) (Whole c.in-Some.piece.now) (reply_form c.step-reply.result) (catalogue_in c.step-reply.new.self)) c.args.self.now.second c.step-reply.ensures.step)
    (sym c.tells_change.ensures ∙ done))
