use Rattle.std.proofs.Common.{sym, subst}
use Rattle.ded_model.specs.declared.command.Language.TheVariants.{Opening}
use Rattle.ded_lex.specs.Pieces.{Whole}
use Rattle.ded_reread.specs.Lines.{header_text}
use Rattle.ded_session.specs.Answered.{reply_form}
use Rattle.ded_session.specs.State.{catalogue_in}
use Rattle.ded_session.specs.Steps.{Step}
use Rattle.ded_kept.proofs.Defined.{defines_none, second_behind}
use Rattle.ded_kept.proofs.session.KeptSession.begin.Goals as goal

pub invariant_of-result : goal.invariant_of-result
invariant_of-result c = record { second = second_behind _ _ c.hashed_with-session.ensures.fresh.language c.step-reply.ensures.language }

pub returns-clause-defines : goal.returns-clause-defines
returns-clause-defines c =
    defines_none c.args.limit (catalogue_in c.step-reply.new.self) (reply_form c.step-reply.result) (sym c.if-is_refusal.ensures)
    (subst (λ d. Step Opening d (Whole header_text) (reply_form c.step-reply.result) (catalogue_in c.step-reply.new.self)) c.hashed_with-session.ensures.fresh.catalogue
    (subst (λ l. Step l (catalogue_in c.hashed_with-session.result) (Whole header_text) (reply_form c.step-reply.result) (catalogue_in c.step-reply.new.self)) c.hashed_with-session.ensures.fresh.language c.step-reply.ensures.step))
