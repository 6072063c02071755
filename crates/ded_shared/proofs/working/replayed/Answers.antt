use Rattle.std.proofs.Common.{rules, ◌≡◌, ◌∙◌, false, sym, subst}
use Rattle.ded_lex.specs.Pieces.{Whole}
use Rattle.ded_model.specs.declared.command.Language.{Language}
use Rattle.ded_model.specs.declared.command.Language.TheVariants.{One}
use Rattle.ded_catalog.specs.State.{catalogue_of}
use Rattle.ded_session.specs.Answered.{reply_form}
use Rattle.ded_session.specs.Replies.{is_refusal}
use Rattle.ded_session.specs.State.{catalogue_in, language_in}
use Rattle.ded_session.specs.Steps.{Step}
use Rattle.ded_shared.proofs.PieceByPiece.{along_further}
use Rattle.ded_shared.proofs.working.replayed.Goals as goal

pub loop-piece-preserved : goal.loop-piece-preserved
loop-piece-preserved c =
    let now = catalogue_in c.loop-piece.session in
    let next = catalogue_in c.step.new.self in
    let reply = reply_form c.step.result in
    let is : c.deref.result.now ≡ c.piece-item.result = search rules in
    let read : Step (language_in c.loop-piece.session) now (Whole c.deref.result.now) reply next = c.step.ensures.step in
    let step : Step One now (Whole c.piece-item.result) reply next = subst (λ bytes. Step One now (Whole bytes) reply next) is (subst (λ (l : Language). Step l now (Whole c.deref.result.now) reply next) c.loop-piece.invariant.language read) in
    let accepted : is_refusal reply ≡ false = sym c.is_refusal.ensures ∙ c.if-is_refusal.false in
    record {
      along = along_further c.args.pieces.now c.loop-piece.piece-index c.piece-item.result (catalogue_of c.args.catalogue.now) now next reply c.loop-piece-test.true c.piece-item.is step accepted c.loop-piece.invariant.along;
      language = search rules;
    }
