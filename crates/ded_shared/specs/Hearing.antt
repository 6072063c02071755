-- What shared sessions may answer, as the loop hears it.
use Rattle.ded_dialogue.specs.Forms.{Heard}
use Rattle.ded_dialogue.specs.Replies.{Said}
use Rattle.ded_dialogue.specs.Runs.{Answers}
use Rattle.ded_lex.specs.Pieces.{Statement}
use Rattle.ded_shared.specs.Forms.{SharedForm, refuses}
use Rattle.ded_shared.specs.Rules.{SharedStep}
use Rattle.ded_shared.specs.State.{State}
use Rattle.ded_shared.specs.Tags.{Tagged, IsTagged}
use Rattle.ded_shared.specs.Texts.{shared_text}

-- a reply as it is heard
abbrev pub said_of : SharedForm → Said
said_of reply = record { text = shared_text reply; refuses = refuses reply }

-- the statement is some tagged one, which may get the reply
pub record MayReply (s : State) (statement : Statement) (reply : SharedForm) (t : State) : Type 0 where
  pub tagged : Tagged
  pub is : IsTagged statement tagged
  pub step : SharedStep s tagged reply t

-- what shared sessions may answer
abbrev pub MayAnswer : Answers State
MayAnswer = Heard MayReply said_of
