-- What the replies of shared sessions stand for.
use Rattle.ded_session.specs.Answered.{reply_form}
use Rattle.ded_shared.specs.declared.reply.SharedReply.{SharedReply}
use Rattle.ded_shared.specs.declared.reply.SharedReply.TheVariants.{Plain, Begun, NotBegun, Conflict}
use Rattle.ded_shared.specs.Forms.{SharedForm, plain, begun, not_begun, conflict}

-- what a reply of shared sessions says
abbrev pub shared_form : SharedReply → SharedForm
shared_form (Plain reply) = plain (reply_form reply)
shared_form Begun = begun
shared_form NotBegun = not_begun
shared_form (Conflict n) = conflict n
