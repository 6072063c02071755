-- Behind a statement that was answered each further one may get a reply.
use Rattle.std.proofs.Common.{refl}
use Rattle.ded_dialogue.specs.Replies.{Said}
use Rattle.ded_dialogue.specs.Runs.{SomeAnswer}
use Rattle.ded_lex.specs.Pieces.{Statement}
use Rattle.ded_session.specs.Following.{not_opening, goes_stays, some_step}
use Rattle.ded_run.specs.OneSession.{MayAnswer, Standing, said_of}

-- behind a statement that was answered any other may get some reply
pub any_next : (m n : Standing) (s next : Statement) (said : Said) → MayAnswer m s said n → SomeAnswer MayAnswer n next
any_next m n s next said a =
    let later = not_opening m.language n.language s a.step.goes_on in
    let step = some_step n.language n.catalogue next later in
    record {
      reply = said_of step.0;
      after = n;
      is = record { reply = step.0; step = record { step = step.1; goes_on = goes_stays n.language next later }; is = refl };
    }
