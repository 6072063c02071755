use Rattle.std.proofs.Common.{sym, ◌∙◌, subst, true≢false}
use Rattle.ded_lex.specs.Pieces.{Whole}
use Rattle.ded_model.specs.declared.command.Language.{Language}
use Rattle.ded_session.specs.Runs.{GoesOn}
use Rattle.ded_session.specs.State.{catalogue_in, language_in, state_in}
use Rattle.ded_session.proofs.HeaderSteps.{header_step, header_upholds, header_goes, other_goes}
use Rattle.ded_session.proofs.session.Session.step_whole.Goals as goal

pub returns-then-is_header_in-clause-step : goal.returns-then-is_header_in-clause-step
unfolding catalogue_in language_in
returns-then-is_header_in-clause-step c = header_step _ c.args.bytes.now _ (c.is_header_in.ensures.0 c.if-is_header_in.true)

pub returns-then-is_header_in-clause-language : goal.returns-then-is_header_in-clause-language
unfolding language_in
returns-then-is_header_in-clause-language c = header_goes _ (Whole c.args.bytes.now) (c.is_header_in.ensures.0 c.if-is_header_in.true)

pub returns-then-is_header_in-clause-upholds : goal.returns-then-is_header_in-clause-upholds
unfolding state_in language_in
returns-then-is_header_in-clause-upholds c = header_upholds _ c.args.bytes.now _ (c.is_header_in.ensures.0 c.if-is_header_in.true)

pub returns-clause-language : goal.returns-clause-language
unfolding language_in
returns-clause-language c =
    subst (λ (next : Language). GoesOn (language_in c.args.self.now) (Whole c.args.bytes.now) next) (sym c.after-self.ensures)
    (other_goes (language_in c.args.self.now) (Whole c.args.bytes.now) (λ h. true≢false (sym (c.is_header_in.ensures.1 h) ∙ c.if-is_header_in.false)))
