-- What a step does with a piece of an input.
use Rattle.std.specs.Prelude.{◌≡◌, ℕ, List}
use Rattle.ded_lex.specs.declared.piece.Piece.{Piece}
use Rattle.ded_lex.specs.declared.piece.Piece.TheVariants as piece
use Rattle.ded_model.specs.declared.command.Refusal.TheVariants.{LongStatement, Unfinished}
use Rattle.ded_session.specs.Replies.{refused}
use Rattle.ded_shared.specs.Forms.{SharedForm, plain}
use Rattle.ded_shared.specs.Rules.{SharedStep}
use Rattle.ded_shared.specs.State.{State}
use Rattle.ded_shared.specs.Tags.{Tagged, IsTaggedPiece}

-- a whole piece is some tagged statement, and the step is one of the rules
pub record StepsTagged (bytes : List ℕ) (s : State) (reply : SharedForm) (t : State) : Type 0 where
  pub tagged : Tagged
  pub is : IsTaggedPiece bytes tagged
  pub step : SharedStep s tagged reply t

-- a long piece and a cut one are refused, and change nothing
abbrev pub StepsSharedPiece : Piece → State → SharedForm → State → Type 0
StepsSharedPiece (piece.Whole bytes) s reply t = StepsTagged bytes.now s reply t
StepsSharedPiece piece.Long s reply t = (reply ≡ plain (refused LongStatement)) × (t ≡ s)
StepsSharedPiece piece.Cut s reply t = (reply ≡ plain (refused Unfinished)) × (t ≡ s)
