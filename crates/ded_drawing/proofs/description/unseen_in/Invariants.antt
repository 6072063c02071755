-- The count so far and that of the replies that are left make the whole.
use Rattle.std.proofs.Common.{◌≡◌, ◌+◌, drop}
use Rattle.std.specs.Prelude.{map}
use Rattle.ded_session.specs.Answered.{reply_form}
use Rattle.ded_drawing.specs.Descriptions.{unseen_in}
use Rattle.ded_drawing.proofs.description.unseen_in.Given as goal

abbrev pub invariant-loop-reply : goal.invariant-loop-reply
invariant-loop-reply l = l.unseen + unseen_in l.look (map reply_form (drop l.reply-index l.replies)) ≡ unseen_in l.look (map reply_form l.replies)
