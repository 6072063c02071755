-- The lines of the replies that are left complete those of all.
use Rattle.std.proofs.Common.{◌≡◌, ◌++◌, drop}
use Rattle.std.specs.Prelude.{map}
use Rattle.ded_session.specs.Answered.{reply_form}
use Rattle.ded_drawing.specs.Descriptions.{lines_told}
use Rattle.ded_drawing.proofs.description.add_told.Given as goal

abbrev pub invariant-loop-reply : goal.invariant-loop-reply
invariant-loop-reply l = l.lines.items ++ lines_told (map reply_form (drop l.reply-index l.replies)) ≡ l.fn.lines.items ++ lines_told (map reply_form l.replies)
