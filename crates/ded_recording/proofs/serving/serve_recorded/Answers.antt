use Rattle.std.proofs.Common.{refl, ◌∙◌, arith, rules}
use Rattle.ded_recording.proofs.Reading.{begins, reads_on, stays_unread, unread_survives, all_answered, end_settles, end_survives, breaks, halt_survives, halt_follows, halts_in, halts_none, is_overlong, overlong_survives, overlong_settles, stop_fault}
use Rattle.ded_recording.proofs.serving.serve_recorded.Goals as goal

pub loop-count-init : goal.loop-count-init
loop-count-init g c = record { reads = begins g.A.Recording.gives g.A.Recording.rest g.A.Recording.listed g.S.Store.recovers g.S.Store.is_shielded _ _ _ _ _ c.requires.fresh c.requires.unlisted c.requires.settled; read = refl; written = refl }

pub returns-in_default-clause-unread : goal.returns-in_default-clause-unread
returns-in_default-clause-unread g c = λ is.
    stays_unread g.A.Recording.gives g.A.Recording.rest g.A.Recording.listed g.S.Store.recovers g.S.Store.is_shielded _ _ _ _ _ _ _ _ _ _ c.loop-count.invariant.reads _ c.in_default.ensures.bytes

pub returns-in_default-clause-crash : goal.returns-in_default-clause-crash
returns-in_default-clause-crash g c =
    unread_survives g.A.Recording.gives g.A.Recording.rest g.A.Recording.listed g.S.Store.recovers g.S.Store.is_shielded _ _ _ _ _ _ _ _ _ _ c.loop-count.invariant.reads _ c.in_default.ensures.bytes

pub returns-in-Ok-true-clause-done_with_refusals : goal.returns-in-Ok-true-clause-done_with_refusals
returns-in-Ok-true-clause-done_with_refusals g c = λ is honest.
    all_answered g.A.Recording.gives g.A.Recording.rest g.A.Recording.listed g.S.Store.recovers g.S.Store.is_shielded _ _ _ _ _ _ _ _ _ _ c.loop-count.invariant.reads _ _ _ _ _ _ _ c.if-count-eq0.true c.in-Ok.ensures.bytes.0 c.in-Ok-true.ensures.ended _ c.in-Ok-true.field-0-test (c.in-Ok.ensures.bytes.1 c.if-count-eq0.true (search rules)) honest

pub returns-in-Ok-true-clause-crash : goal.returns-in-Ok-true-clause-crash
returns-in-Ok-true-clause-crash g c =
    end_survives g.A.Recording.gives g.A.Recording.rest g.A.Recording.listed g.S.Store.recovers g.S.Store.is_shielded _ _ _ _ _ _ _ _ _ _ c.loop-count.invariant.reads _ _ _ _ _ _ _ c.if-count-eq0.true c.in-Ok.ensures.bytes.0 c.in-Ok-true.ensures.ended

pub returns-in-Ok-true-clause-settled : goal.returns-in-Ok-true-clause-settled
returns-in-Ok-true-clause-settled g c = λ other.
    end_settles g.A.Recording.gives g.A.Recording.rest g.A.Recording.listed g.S.Store.recovers g.S.Store.is_shielded _ _ _ _ _ _ _ _ _ _ c.loop-count.invariant.reads _ _ _ _ _ _ _ c.if-count-eq0.true c.in-Ok.ensures.bytes.0 c.in-Ok-true.ensures.ended

pub returns-in-Ok-false-clause-done : goal.returns-in-Ok-false-clause-done
returns-in-Ok-false-clause-done g c = λ is honest.
    all_answered g.A.Recording.gives g.A.Recording.rest g.A.Recording.listed g.S.Store.recovers g.S.Store.is_shielded _ _ _ _ _ _ _ _ _ _ c.loop-count.invariant.reads _ _ _ _ _ _ _ c.if-count-eq0.true c.in-Ok.ensures.bytes.0 c.in-Ok-false.ensures.ended _ c.in-Ok-false.field-0-test (c.in-Ok.ensures.bytes.1 c.if-count-eq0.true (search rules)) honest

pub returns-in-Ok-false-clause-crash : goal.returns-in-Ok-false-clause-crash
returns-in-Ok-false-clause-crash g c =
    end_survives g.A.Recording.gives g.A.Recording.rest g.A.Recording.listed g.S.Store.recovers g.S.Store.is_shielded _ _ _ _ _ _ _ _ _ _ c.loop-count.invariant.reads _ _ _ _ _ _ _ c.if-count-eq0.true c.in-Ok.ensures.bytes.0 c.in-Ok-false.ensures.ended

pub returns-in-Ok-false-clause-settled : goal.returns-in-Ok-false-clause-settled
returns-in-Ok-false-clause-settled g c = λ other.
    end_settles g.A.Recording.gives g.A.Recording.rest g.A.Recording.listed g.S.Store.recovers g.S.Store.is_shielded _ _ _ _ _ _ _ _ _ _ c.loop-count.invariant.reads _ _ _ _ _ _ _ c.if-count-eq0.true c.in-Ok.ensures.bytes.0 c.in-Ok-false.ensures.ended

pub returns-in-Err-clause-broken : goal.returns-in-Err-clause-broken
returns-in-Err-clause-broken g c = λ is.
    breaks g.A.Recording.gives g.A.Recording.rest g.A.Recording.listed g.S.Store.recovers g.S.Store.is_shielded _ _ _ _ _ _ _ _ _ _ c.loop-count.invariant.reads _ _ _ _ _ c.in-Ok.ensures.bytes.0
    (halts_none g.A.Recording.gives g.A.Recording.rest g.A.Recording.listed g.S.Store.recovers g.S.Store.is_shielded _ _ _ _ _ _ _ _ _ _ c.loop-count.invariant.reads _ _ _ _ c.if-count-eq0.true c.in-Err.ensures.halts) c.in-Ok.ensures.last

pub returns-in-Err-clause-crash : goal.returns-in-Err-clause-crash
returns-in-Err-clause-crash g c =
    halt_survives g.A.Recording.gives g.A.Recording.rest g.A.Recording.listed g.S.Store.recovers g.S.Store.is_shielded _ _ _ _ _ _ _ _ _ _ c.loop-count.invariant.reads _ _ (g.R.Source.last c.read.new.self) _ _ c.in-Ok.ensures.bytes.0
    (halts_none g.A.Recording.gives g.A.Recording.rest g.A.Recording.listed g.S.Store.recovers g.S.Store.is_shielded _ _ _ _ _ _ _ _ _ _ c.loop-count.invariant.reads _ _ _ _ c.if-count-eq0.true c.in-Err.ensures.halts)

pub returns-in-Err-clause-journal_fault : goal.returns-in-Err-clause-journal_fault
returns-in-Err-clause-journal_fault g c =
    stop_fault g.A.Recording.gives g.A.Recording.rest g.A.Recording.listed g.S.Store.recovers g.S.Store.is_shielded _ _ _ _ _ _ _ _ _ _ c.loop-count.invariant.reads c.finish.new.journal c.in-Err.stop _ _ _ _ _ _ c.outcome.ensures (c.in-Ok.ensures.cause.done ∙ c.loop-count.invariant.read) c.loop-count.invariant.written c.in-Err.ensures.cause

pub returns-in-Err-feed-clause-broken : goal.returns-in-Err-feed-clause-broken
returns-in-Err-feed-clause-broken g c = λ is.
    breaks g.A.Recording.gives g.A.Recording.rest g.A.Recording.listed g.S.Store.recovers g.S.Store.is_shielded _ _ _ _ _ _ _ _ _ _ c.loop-count.invariant.reads _ _ _ _ _ c.in-Ok.ensures.bytes.0
    (halts_in g.A.Recording.gives g.A.Recording.rest g.A.Recording.listed g.S.Store.recovers g.S.Store.is_shielded _ _ _ _ _ _ _ _ _ _ c.loop-count.invariant.reads _ _ _ _ _ (omega (arith, c.min-within.ensures)) c.in-Err-feed.ensures.halts) c.in-Ok.ensures.last

pub returns-in-Err-feed-clause-crash : goal.returns-in-Err-feed-clause-crash
returns-in-Err-feed-clause-crash g c =
    halt_survives g.A.Recording.gives g.A.Recording.rest g.A.Recording.listed g.S.Store.recovers g.S.Store.is_shielded _ _ _ _ _ _ _ _ _ _ c.loop-count.invariant.reads _ _ (g.R.Source.last c.read.new.self) _ _ c.in-Ok.ensures.bytes.0
    (halts_in g.A.Recording.gives g.A.Recording.rest g.A.Recording.listed g.S.Store.recovers g.S.Store.is_shielded _ _ _ _ _ _ _ _ _ _ c.loop-count.invariant.reads _ _ _ _ _ (omega (arith, c.min-within.ensures)) c.in-Err-feed.ensures.halts)

pub returns-in-Err-feed-clause-follows : goal.returns-in-Err-feed-clause-follows
returns-in-Err-feed-clause-follows g c =
    halt_follows g.A.Recording.gives g.A.Recording.rest g.A.Recording.listed g.S.Store.recovers g.S.Store.is_shielded _ _ _ _ _ _ _ _ _ _ c.loop-count.invariant.reads _ _ (g.R.Source.last c.read.new.self) _ _ c.in-Ok.ensures.bytes.0
    (halts_in g.A.Recording.gives g.A.Recording.rest g.A.Recording.listed g.S.Store.recovers g.S.Store.is_shielded _ _ _ _ _ _ _ _ _ _ c.loop-count.invariant.reads _ _ _ _ _ (omega (arith, c.min-within.ensures)) c.in-Err-feed.ensures.halts)

pub returns-in-Err-feed-clause-journal_fault : goal.returns-in-Err-feed-clause-journal_fault
returns-in-Err-feed-clause-journal_fault g c =
    stop_fault g.A.Recording.gives g.A.Recording.rest g.A.Recording.listed g.S.Store.recovers g.S.Store.is_shielded _ _ _ _ _ _ _ _ _ _ c.loop-count.invariant.reads c.feed.new.journal c.in-Err-feed.stop _ _ _ _ _ _ c.outcome-in-Err-feed.ensures (c.in-Ok.ensures.cause.done ∙ c.loop-count.invariant.read) c.loop-count.invariant.written c.in-Err-feed.ensures.cause

pub returns-then-within-count-clause-overlong : goal.returns-then-within-count-clause-overlong
returns-then-within-count-clause-overlong g c = λ is.
    is_overlong g.A.Recording.gives g.A.Recording.rest g.A.Recording.listed g.S.Store.recovers g.S.Store.is_shielded _ _ _ _ _ _ _ _ _ _ c.loop-count.invariant.reads _ _ _ _ _ _ _ c.in-Ok.ensures.bound.0 (omega (arith, c.min-within.ensures, c.if-within-count.true)) (omega (arith, c.min-within.ensures, c.if-within-count.true)) c.in-Ok.ensures.bytes.0 c.in_default-feed.ensures.moves

pub returns-then-within-count-clause-crash : goal.returns-then-within-count-clause-crash
returns-then-within-count-clause-crash g c =
    overlong_survives g.A.Recording.gives g.A.Recording.rest g.A.Recording.listed g.S.Store.recovers g.S.Store.is_shielded _ _ _ _ _ _ _ _ _ _ c.loop-count.invariant.reads _ _ _ _ _ _ _ c.in-Ok.ensures.bound.0 (omega (arith, c.min-within.ensures, c.if-within-count.true)) (omega (arith, c.min-within.ensures, c.if-within-count.true)) c.in-Ok.ensures.bytes.0 c.in_default-feed.ensures.moves

pub returns-then-within-count-clause-settled : goal.returns-then-within-count-clause-settled
returns-then-within-count-clause-settled g c = λ other.
    overlong_settles g.A.Recording.gives g.A.Recording.rest g.A.Recording.listed g.S.Store.recovers g.S.Store.is_shielded _ _ _ _ _ _ _ _ _ _ c.loop-count.invariant.reads _ _ _ _ _ _ _ c.in-Ok.ensures.bound.0 (omega (arith, c.min-within.ensures, c.if-within-count.true)) (omega (arith, c.min-within.ensures, c.if-within-count.true)) c.in-Ok.ensures.bytes.0 c.in_default-feed.ensures.moves

pub loop-count-preserved : goal.loop-count-preserved
loop-count-preserved g c = record {
  reads = reads_on g.A.Recording.gives g.A.Recording.rest g.A.Recording.listed g.S.Store.recovers g.S.Store.is_shielded _ _ _ _ _ _ _ _ _ _ c.loop-count.invariant.reads _ _ _ _ _ _ _ c.in-Ok.ensures.bound.0 (omega (arith, c.min-within.ensures, c.if-within-count.false)) (omega (arith, c.min-within.ensures, c.if-within-count.false)) c.in-Ok.ensures.bytes.0
      c.in_default-feed.ensures.moves _ (omega (arith, c.min-within.ensures, c.if-within-count.false));
  read = c.in-Ok.ensures.cause.done ∙ c.loop-count.invariant.read;
  written = c.in_default-feed.ensures.faultless ∙ c.loop-count.invariant.written;
}
