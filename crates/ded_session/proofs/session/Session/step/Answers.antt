use Rattle.std.proofs.Common.{sym, subst}
use Rattle.ded_lex.specs.declared.piece.Piece.{Piece}
use Rattle.ded_session.specs.Answered.{reply_form}
use Rattle.ded_session.specs.Keeping.{UpholdsStatement}
use Rattle.ded_session.specs.State.{language_in, state_in}
use Rattle.ded_session.proofs.Upheld.{same_lists}
use Rattle.ded_session.proofs.session.Session.step.Goals as goal

pub returns-in-Long-clause-upholds : goal.returns-in-Long-clause-upholds
returns-in-Long-clause-upholds c =
    subst (λ (p : Piece). UpholdsStatement p (language_in c.args.self.now) (reply_form c.refuse.result) (state_in c.args.self.now) (state_in c.refuse.new.self)) (sym c.in-Long.is) (same_lists _ _ c.refuse.ensures.state)

pub returns-in-Cut-clause-upholds : goal.returns-in-Cut-clause-upholds
returns-in-Cut-clause-upholds c =
    subst (λ (p : Piece). UpholdsStatement p (language_in c.args.self.now) (reply_form c.refuse-in-Cut.result) (state_in c.args.self.now) (state_in c.refuse-in-Cut.new.self)) (sym c.in-Cut.is) (same_lists _ _ c.refuse-in-Cut.ensures.state)
