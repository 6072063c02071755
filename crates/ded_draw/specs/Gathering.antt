-- A session whose replies are gathered and not written.
use Rattle.std.specs.Prelude.{◌≡◌, ℕ, Bool, false, List, [], ◌∷◌, ◌++◌}
use Rattle.ded_dialogue.specs.Replies.{Said}
use Rattle.ded_lex.specs.Pieces.{Statement}
use Rattle.ded_run.specs.OneSession.{MayReply, Standing, opening}
use Rattle.ded_session.specs.Replies.{ReplyForm, done, number, is_refusal}

-- the reply as what a picture tells: that a statement was done, or got a number, isn't told
abbrev pub told_of : ReplyForm → List ReplyForm
told_of done = []
told_of (number k) = []
told_of reply = reply ∷ []

-- the replies that a picture tells, in order
abbrev pub told : List ReplyForm → List ReplyForm
told [] = []
told (reply ∷ replies) = told_of reply ++ told replies

-- the language and the catalogue, the replies gathered so far, and whether memory was wanting for one
pub record Gathered : Type 0 where
  pub standing : Standing
  pub replies : List ReplyForm
  pub starved : Bool

-- before the first statement
abbrev pub first_gathered : ℕ → Gathered
first_gathered limit = record { standing = opening limit; replies = []; starved = false }

-- nothing is written of a reply
abbrev pub unwritten : ReplyForm → Said
unwritten reply = record { text = []; refuses = is_refusal reply }

-- The statement may get a reply, of which nothing is written; it is gathered unless memory is wanting for it or was for one before.
pub record MayGather (m : Gathered) (s : Statement) (said : Said) (n : Gathered) : Type 0 where
  pub reply : ReplyForm
  pub step : MayReply m.standing s reply n.standing
  pub is : said ≡ unwritten reply
  pub gathered : n.starved ≡ false → (m.starved ≡ false) × (n.replies ≡ m.replies ++ told_of reply)
