-- Replies that don't want memory.
use Rattle.std.specs.Prelude.{List, [], ◌∷◌}
use Rattle.ded_model.specs.declared.command.Refusal.TheVariants.{Memory}
use Rattle.ded_session.specs.Replies.{ReplyForm, refused}

-- the reply isn't that memory is wanted
abbrev pub WantsNoMemory : ReplyForm → Type 0
WantsNoMemory (refused Memory) = ⊥
WantsNoMemory _ = Unit {0}

-- none of the replies is that memory is wanted
abbrev pub WantsNone : List ReplyForm → Type 0
WantsNone [] = Unit {0}
WantsNone (reply ∷ replies) = WantsNoMemory reply × WantsNone replies
