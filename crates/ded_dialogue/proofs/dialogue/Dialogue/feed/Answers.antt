use Rattle.std.proofs.Common.{◌∙◌}
use Rattle.ded_dialogue.proofs.Feeding.{on_err, if_sent, if_not_sent, behind_byte, behind_all, breaks_byte, breaks_now, grows_sent, breaks_sent}
use Rattle.ded_dialogue.proofs.dialogue.Dialogue.feed.Goals as goal

pub returns-in_err-feed_byte-clause-breaks : goal.returns-in_err-feed_byte-clause-breaks
returns-in_err-feed_byte-clause-breaks g c =
    on_err _ _ (breaks_now _ _ _ _ _ _ (breaks_byte _ _ _ _ _ _ _ _ _ _ _ c.loop-byte-test.true c.loop-byte.invariant.fed c.in_err-feed_byte.ensures.breaks))

pub loop-byte-preserved : goal.loop-byte-preserved
loop-byte-preserved g c = record {
  fed = behind_byte _ _ _ _ _ _ _ _ _ _ _ c.loop-byte-test.true c.loop-byte.invariant.fed _ _ c.in_ok-feed_byte.ensures.grows;
  done = c.in_ok-feed_byte.ensures.cause.done ∙ c.loop-byte.invariant.done;
}

pub returns-clause-grows : goal.returns-clause-grows
returns-clause-grows g c =
    if_sent _ _ _ _ _ c.flush.ensures.bytes (λ sent. grows_sent _ _ _ _ _ _ _ _ _ (behind_all _ _ _ _ _ _ _ _ _ c.loop-byte-test.false c.loop-byte.invariant.fed) sent)

pub returns-clause-breaks : goal.returns-clause-breaks
returns-clause-breaks g c =
    if_not_sent _ _ _ _ _ _ c.flush.ensures.bytes c.flush.ensures.some
    (λ rest some sent. breaks_sent _ _ _ _ _ _ _ _ _ (behind_all _ _ _ _ _ _ _ _ _ c.loop-byte-test.false c.loop-byte.invariant.fed) g.met.A.Answering.goes_on rest some sent)
