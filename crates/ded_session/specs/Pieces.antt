-- What a step does with a piece, and the language behind it.
use Rattle.std.specs.Prelude.{◌≡◌}
use Rattle.ded_lex.specs.declared.piece.Piece.{Piece}
use Rattle.ded_lex.specs.declared.piece.Piece.TheVariants as piece
use Rattle.ded_lex.specs.Pieces.{Whole}
use Rattle.ded_model.specs.declared.command.Language.{Language}
use Rattle.ded_model.specs.declared.command.Refusal.TheVariants.{LongStatement, Unfinished}
use Rattle.ded_model.specs.Catalogue.{Catalogue}
use Rattle.ded_session.specs.Replies.{ReplyForm, refused}
use Rattle.ded_session.specs.Runs.{next_language, GoesOn}
use Rattle.ded_session.specs.Steps.{Step}

-- a step on a whole piece is one of the rules; a long one and a cut one are refused, and change nothing
abbrev pub StepsPiece : Piece → Language → Catalogue → ReplyForm → Catalogue → Type 0
StepsPiece (piece.Whole bytes) language c reply d = Step language c (Whole bytes.now) reply d
StepsPiece piece.Long language c reply d = (reply ≡ refused LongStatement) × (d ≡ c)
StepsPiece piece.Cut language c reply d = (reply ≡ refused Unfinished) × (d ≡ c)

-- the language after a whole piece is that of the rules; a long one and a cut one are no header
abbrev pub GoesOnPiece : Language → Piece → Language → Type 0
GoesOnPiece language (piece.Whole bytes) next = GoesOn language (Whole bytes.now) next
GoesOnPiece language piece.Long next = next ≡ next_language language
GoesOnPiece language piece.Cut next = next ≡ next_language language
