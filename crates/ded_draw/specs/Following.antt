-- Behind a statement that was answered each further one may get a reply.
use Rattle.std.proofs.Common.{refl, true≢false}
use Rattle.std.specs.Prelude.{true}
use Rattle.ded_dialogue.specs.Replies.{Said}
use Rattle.ded_dialogue.specs.Runs.{SomeAnswer}
use Rattle.ded_lex.specs.Pieces.{Statement}
use Rattle.ded_run.specs.Following.{any_next}
use Rattle.ded_run.specs.OneSession.{MayAnswer, said_of}
use Rattle.ded_draw.specs.Gathering.{Gathered, MayGather, unwritten}

-- behind a statement that was answered any other may get some reply
pub any_gathered : (m n : Gathered) (s next : Statement) (said : Said) → MayGather m s said n → SomeAnswer MayGather n next
any_gathered m n s next said a =
    let some : SomeAnswer MayAnswer n.standing next = any_next m.standing n.standing s next (said_of a.reply) (record { reply = a.reply; step = a.step; is = refl }) in
    record {
      reply = unwritten some.is.reply;
      after = record { standing = some.after; replies = n.replies; starved = true };
      is = record { reply = some.is.reply; step = some.is.step; is = refl; gathered = λ never. absurd (true≢false never) };
    }
