-- The sights of the replies that are left complete the list.
use Rattle.std.proofs.Common.{drop}
use Rattle.ded_drawing.proofs.Sighted.{Goes}
use Rattle.ded_drawing.proofs.sighting.sights_of.Given as goal

abbrev pub invariant-loop-reply : goal.invariant-loop-reply
invariant-loop-reply l = Goes l.look l.replies (drop l.reply-index l.replies) l.sights.items
