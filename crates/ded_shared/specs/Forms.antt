-- What a tagged statement is answered.
use Rattle.std.specs.Prelude.{ℕ, Bool, true, false, ◌||◌, List, [], ◌∷◌}
use Rattle.ded_session.specs.Replies.{ReplyForm, is_refusal}

-- a reply as a session gives it; that a transaction was begun before, or that none was; or that its commit conflicts at a name
pub data SharedForm : Type 0 where
  plain : ReplyForm → SharedForm
  begun : SharedForm
  not_begun : SharedForm
  conflict : List ℕ → SharedForm

-- whether the reply is a refusal, as `begun`, `not_begun` and `conflict` always are
abbrev pub refuses : SharedForm → Bool
refuses (plain reply) = is_refusal reply
refuses _ = true

-- whether some reply is a refusal
abbrev pub some_refuses : List SharedForm → Bool
some_refuses [] = false
some_refuses (reply ∷ replies) = refuses reply || some_refuses replies
