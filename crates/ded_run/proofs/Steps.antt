-- Whichever statement a piece stands for, a step on the piece is one on the statement.
use Rattle.std.proofs.Common.{◌≡◌, ◌≤◌, ◌<◌, ℕ, List, length, refl, sym, inr, arith, subst}
use Rattle.ded_dialogue.specs.Runs.{StandsFor}
use Rattle.ded_lex.specs.declared.piece.Piece.{Piece}
use Rattle.ded_lex.specs.declared.piece.Piece.TheVariants as piece
use Rattle.ded_lex.specs.Pieces.{Statement, Whole, statement_bytes}
use Rattle.ded_lex.specs.Pieces as pieces
use Rattle.ded_model.specs.declared.command.Language.{Language}
use Rattle.ded_model.specs.declared.command.Language.TheVariants.{Opening, One, Two}
use Rattle.ded_model.specs.declared.command.Refusal.TheVariants.{LongStatement, Unfinished}
use Rattle.ded_model.specs.Catalogue.{Catalogue}
use Rattle.ded_session.specs.Following.{long_step, rest_step}
use Rattle.ded_session.specs.Pieces.{StepsPiece, GoesOnPiece}
use Rattle.ded_session.specs.Replies.{ReplyForm, refused}
use Rattle.ded_session.specs.Runs.{next_language, GoesOn}
use Rattle.ded_session.specs.Steps.{Step, IsHeaderIn}
use Rattle.ded_run.specs.OneSession.{MayAnswer, MayReply, Standing, said_of}

-- behind a statement that isn't whole, or is long
long_goes_on : (language next : Language) (s : Statement) → 65536 < length (statement_bytes s) → next ≡ next_language language → GoesOn language s next
long_goes_on Opening next s long e = inr (no_long s long, e)
  where
    no_long : (t : Statement) → 65536 < length (statement_bytes t) → IsHeaderIn Opening t → ⊥
    no_long (Whole piece) long h = let short = h.0 in omega (arith, long, short)
    no_long (pieces.Unfinished rest) long h = h
long_goes_on One next s long e = e
long_goes_on Two next s long e = e

rest_goes_on : (language next : Language) (rest : List ℕ) → next ≡ next_language language → GoesOn language (pieces.Unfinished rest) next
rest_goes_on Opening next rest e = inr ((λ h. h), e)
rest_goes_on One next rest e = e
rest_goes_on Two next rest e = e

long_piece : (language : Language) (c d : Catalogue) (reply : ReplyForm) (s : Statement) → reply ≡ refused LongStatement → d ≡ c → 65536 < length (statement_bytes s) → Step language c s reply d
long_piece language c d reply s is same long =
    subst (λ (e : Catalogue). Step language c s reply e) (sym same) (subst (λ (r : ReplyForm). Step language c s r c) (sym is) (long_step language c s long))

cut_piece : (language : Language) (c d : Catalogue) (reply : ReplyForm) (rest : List ℕ) → reply ≡ refused Unfinished → d ≡ c → length rest ≤ 65536 → Step language c (pieces.Unfinished rest) reply d
cut_piece language c d reply rest is same short =
    subst (λ (e : Catalogue). Step language c (pieces.Unfinished rest) reply e) (sym same) (subst (λ (r : ReplyForm). Step language c (pieces.Unfinished rest) r c) (sym is) (rest_step language c rest short))

pub answers_step : (p : Piece) (m n : Standing) (reply : ReplyForm) → StepsPiece p m.language m.catalogue reply n.catalogue → GoesOnPiece m.language p n.language
    → (s : Statement) → StandsFor p s → MayReply m s reply n
answers_step (piece.Whole bytes) m n reply step goes s is = subst (λ (t : Statement). MayReply m t reply n) (sym is) (record { step = step; goes_on = goes })
answers_step piece.Long m n reply step goes s long = record {
  step = long_piece m.language m.catalogue n.catalogue reply s step.0 step.1 long;
  goes_on = long_goes_on m.language n.language s long goes;
}
answers_step piece.Cut m n reply step goes (Whole bytes) is = absurd is
answers_step piece.Cut m n reply step goes (pieces.Unfinished rest) short = record {
  step = cut_piece m.language m.catalogue n.catalogue reply rest step.0 step.1 short;
  goes_on = rest_goes_on m.language n.language rest goes;
}

-- whichever statement the piece stands for
pub answers_piece : (p : Piece) (m n : Standing) (reply : ReplyForm) → StepsPiece p m.language m.catalogue reply n.catalogue → GoesOnPiece m.language p n.language
    → (s : Statement) → StandsFor p s → MayAnswer m s (said_of reply) n
answers_piece p m n reply step goes s is = record { reply = reply; step = answers_step p m n reply step goes s is; is = refl }
