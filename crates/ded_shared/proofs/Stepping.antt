-- Whichever statement a piece stands for, a step on the piece is one on the statement.
use Rattle.std.proofs.Common.{◌≡◌, refl, sym, subst}
use Rattle.ded_dialogue.specs.Runs.{StandsFor}
use Rattle.ded_lex.specs.declared.piece.Piece.{Piece}
use Rattle.ded_lex.specs.declared.piece.Piece.TheVariants as piece
use Rattle.ded_lex.specs.Pieces.{Statement, Whole}
use Rattle.ded_lex.specs.Pieces as pieces
use Rattle.ded_model.specs.declared.command.Refusal.TheVariants.{LongStatement, Unfinished}
use Rattle.ded_session.specs.Replies.{refused}
use Rattle.ded_shared.specs.Deciding.{some_tagged}
use Rattle.ded_shared.specs.Forms.{SharedForm, plain}
use Rattle.ded_shared.specs.Going.{long_reply, rest_reply}
use Rattle.ded_shared.specs.Hearing.{MayReply, MayAnswer, said_of}
use Rattle.ded_shared.specs.Pieces.{StepsSharedPiece}
use Rattle.ded_shared.specs.State.{State}

-- a reply that changes nothing
stays : (statement : Statement) (s t : State) (form reply : SharedForm) → reply ≡ form → t ≡ s → MayReply s statement form s → MayReply s statement reply t
stays statement s t form reply is same m = subst (λ (u : State). MayReply s statement reply u) (sym same) (subst (λ (f : SharedForm). MayReply s statement f s) (sym is) m)

answers_step : (p : Piece) (s t : State) (reply : SharedForm) → StepsSharedPiece p s reply t → (statement : Statement) → StandsFor p statement → MayReply s statement reply t
answers_step (piece.Whole bytes) s t reply step statement is = subst (λ (z : Statement). MayReply s z reply t) (sym is) (record { tagged = step.tagged; is = step.is; step = step.step })
answers_step piece.Long s t reply step statement long =
    let x = some_tagged statement in
    stays statement s t (plain (refused LongStatement)) reply step.0 step.1 (record { tagged = x.0; is = x.1; step = long_reply statement long x.0 x.1 s })
answers_step piece.Cut s t reply step (Whole bytes) is = absurd is
answers_step piece.Cut s t reply step (pieces.Unfinished rest) short =
    let x = some_tagged (pieces.Unfinished rest) in
    stays (pieces.Unfinished rest) s t (plain (refused Unfinished)) reply step.0 step.1 (record { tagged = x.0; is = x.1; step = rest_reply rest short x.0 x.1 s })

-- whichever statement the piece stands for
pub answers_piece : (p : Piece) (s t : State) (reply : SharedForm) → StepsSharedPiece p s reply t → (statement : Statement) → StandsFor p statement → MayAnswer s statement (said_of reply) t
answers_piece p s t reply step statement is = record { reply = reply; step = answers_step p s t reply step statement is; is = refl }
