use Rattle.std.proofs.Common.{refl, ◌∙◌, arith, rules}
use Rattle.ded_dialogue.proofs.Reading.{begins, reads_on, stays_unread, all_answered, breaks_at_end, breaks_in, is_overlong}
use Rattle.ded_dialogue.proofs.serving.serve_dialogue.Goals as goal

pub loop-count-init : goal.loop-count-init
loop-count-init g c = record { reading = begins _ g.A.Answering.state _ _ _ _ _ c.requires.fresh; read = refl; written = refl }

pub returns-in_default-clause-unread : goal.returns-in_default-clause-unread
returns-in_default-clause-unread g c = λ is.
    stays_unread _ _ _ _ _ _ _ _ _ _ c.loop-count.invariant.reading _ c.in_default.ensures.bytes

pub returns-then-count-eq0-clause-done : goal.returns-then-count-eq0-clause-done
returns-then-count-eq0-clause-done g c = λ is.
    all_answered _ _ _ _ _ _ _ _ _ _ c.loop-count.invariant.reading _ _ _ _ _ _ c.if-count-eq0.true c.in-Ok.ensures.bytes.0 (c.in-Ok.ensures.bytes.1 c.if-count-eq0.true (search rules))
    (λ taken s. c.conclude.ensures.done is _ 0 taken _ s)

pub returns-then-count-eq0-clause-done_with_refusals : goal.returns-then-count-eq0-clause-done_with_refusals
returns-then-count-eq0-clause-done_with_refusals g c = λ is.
    all_answered _ _ _ _ _ _ _ _ _ _ c.loop-count.invariant.reading _ _ _ _ _ _ c.if-count-eq0.true c.in-Ok.ensures.bytes.0 (c.in-Ok.ensures.bytes.1 c.if-count-eq0.true (search rules))
    (λ taken s. c.conclude.ensures.done_with_refusals is _ 0 taken _ s)

pub returns-then-count-eq0-clause-broken : goal.returns-then-count-eq0-clause-broken
returns-then-count-eq0-clause-broken g c = λ is.
    breaks_at_end _ _ _ _ _ _ _ _ _ _ c.loop-count.invariant.reading _ _ _ _ _ c.if-count-eq0.true c.in-Ok.ensures.bytes.0 c.in-Ok.ensures.last
    (λ m silent before taken s. c.conclude.ensures.broken is m silent before taken _ s)

pub returns-in-Err-clause-broken : goal.returns-in-Err-clause-broken
returns-in-Err-clause-broken g c = λ is.
    breaks_in _ _ _ _ _ _ _ _ _ _ c.loop-count.invariant.reading _ _ _ _ _ _ (omega (arith, c.min-within.ensures)) c.in-Ok.ensures.bytes.0 c.in-Ok.ensures.last
    c.in-Err.ensures.breaks

pub returns-then-within-count-clause-overlong : goal.returns-then-within-count-clause-overlong
returns-then-within-count-clause-overlong g c = λ is.
    is_overlong _ _ _ _ _ _ _ _ _ _ c.loop-count.invariant.reading _ _ _ _ _ _ c.in-Ok.ensures.bound.0 (omega (arith, c.min-within.ensures, c.if-within-count.true)) (omega (arith, c.min-within.ensures, c.if-within-count.true)) c.in-Ok.ensures.bytes.0
    c.in_default-feed.ensures.grows

pub loop-count-preserved : goal.loop-count-preserved
loop-count-preserved g c = record {
  reading = reads_on _ _ _ _ _ _ _ _ _ _ c.loop-count.invariant.reading _ _ _ _ _ _ c.in-Ok.ensures.bound.0 (omega (arith, c.min-within.ensures, c.if-within-count.false)) (omega (arith, c.min-within.ensures, c.if-within-count.false)) c.in-Ok.ensures.bytes.0
      c.in_default-feed.ensures.grows _ (omega (arith, c.min-within.ensures, c.if-within-count.false));
  read = c.in-Ok.ensures.cause.done ∙ c.loop-count.invariant.read;
  written = c.in_default-feed.ensures.cause.done ∙ c.loop-count.invariant.written;
}
