-- Behind a statement that was answered each further one may get a reply.
use Rattle.std.proofs.Common.{refl, inr}
use Rattle.ded_dialogue.specs.Replies.{Said}
use Rattle.ded_dialogue.specs.Runs.{SomeAnswer}
use Rattle.ded_lex.specs.Pieces.{Statement}
use Rattle.ded_model.specs.declared.command.Refusal.TheVariants.{Memory}
use Rattle.ded_run.specs.Following.{any_next}
use Rattle.ded_run.specs.OneSession.{MayAnswer, Standing, said_of}
use Rattle.ded_session.specs.Replies.{ReplyForm, done, number, truth, tuples, stored, boxes, steps, script, apart, meeting, refused}
use Rattle.ded_table.specs.Tabled.{IsTabled, MayTable}

-- something may be written of each reply
some_tabled : (reply : ReplyForm) → (said : Said) × IsTabled reply said
some_tabled done = (said_of done, refl)
some_tabled (number k) = (said_of (number k), refl)
some_tabled (truth b) = (said_of (truth b), refl)
some_tabled (tuples h ts) = (said_of (refused Memory), inr refl)
some_tabled (stored h ts) = (said_of (refused Memory), inr refl)
some_tabled (boxes h b) = (said_of (boxes h b), refl)
some_tabled (steps p) = (said_of (steps p), refl)
some_tabled (script ls) = (said_of (script ls), refl)
some_tabled (apart es) = (said_of (apart es), refl)
some_tabled (meeting i j) = (said_of (meeting i j), refl)
some_tabled (refused r) = (said_of (refused r), refl)

-- behind a statement that was answered any other may get some reply
pub any_table : (m n : Standing) (s next : Statement) (said : Said) → MayTable m s said n → SomeAnswer MayTable n next
any_table m n s next said a =
    let some : SomeAnswer MayAnswer n next = any_next m n s next (said_of a.reply) (record { reply = a.reply; step = a.step; is = refl }) in
    let tabled = some_tabled some.is.reply in
    record {
      reply = tabled.0;
      after = some.after;
      is = record { reply = some.is.reply; step = some.is.step; is = tabled.1 };
    }
