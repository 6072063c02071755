-- Where a session stands that gathers its replies.
use Rattle.std.specs.Prelude.{map}
use Rattle.ded_run.specs.OneSession.{standing_in}
use Rattle.ded_session.specs.Answered.{reply_form}
use Rattle.ded_draw.specs.Gathering.{Gathered}
use Rattle.ded_draw.specs.declared.gathering.Gathering.{Gathering}

-- where such a session stands, its replies so far, and whether memory was wanting for one
abbrev pub gathered_in : Gathering → Gathered
gathered_in g = record { standing = standing_in g.session; replies = map reply_form g.replies.items; starved = g.starved }
